use Rattle.state_deliveries.specs.Placing.{is_gone_there}
use Rattle.state_deliveries.proofs.Placed.{either_of}
use Rattle.state_deliveries.proofs.index.Index.append_ended.Goals as goal

pub returns : goal.returns
returns c = λ known fit n.
    either_of (is_gone_there c.args.gone (known n).consumer.on) (is_gone_there c.args.gone (known n).producer.from)
    (λ on. c.in_ok-append_gone-2.ensures.more n (c.in_ok-append_gone.ensures.found (λ m. (known m).consumer.on) fit.on n on))
    (c.in_ok-append_gone-2.ensures.found (λ m. (known m).producer.from) fit.from n)
