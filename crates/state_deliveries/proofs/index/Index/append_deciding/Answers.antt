use Rattle.std.proofs.Common.{◌∙◌, ap, sym}
use Rattle.state_deliveries.specs.Deciding.{decides}
use Rattle.state_deliveries.proofs.Decided.{decides_others}
use Rattle.state_deliveries.proofs.index.Index.append_deciding.Goals as goal

pub returns-in_ok-append_ids-in-Decided : goal.returns-in_ok-append_ids-in-Decided
returns-in_ok-append_ids-in-Decided c = λ known fit n there.
    c.in_ok-append_ids-in-Decided.ensures.found (λ m. (known m).consumer.durable) fit.durable n (ap (λ x. decides x (known n)) (sym c.in-Decided.is) ∙ there)

pub returns-in_ok-append_concerned-in_default : goal.returns-in_ok-append_concerned-in_default
returns-in_ok-append_concerned-in_default c = λ known fit n there.
    c.in_ok-append_concerned-in_default.ensures known fit n (sym (decides_others c.args.change.now (known n) c.in_default.not-Decided) ∙ there)
