use Rattle.std.proofs.Common.{◌≡◌, refl, sym, subst, false, Option}
use Rattle.state_deliveries.specs.declared.standing.AtConsumer.{AtConsumer}
use Rattle.state_deliveries.specs.Indexing.{Indexes, at_consumer_moved, consumer_after}
use Rattle.state_deliveries.specs.Touching.{SameAtConsumer, is_touched_in}
use Rattle.state_deliveries.proofs.Reindexed.{consumer_followed, consumer_rests}
use Rattle.state_deliveries.proofs.Touching.{consumer_touched}
use Rattle.state_deliveries.proofs.index.Index.follow_at_consumer.Goals as goal

pub returns-in-None-clause-indexed : goal.returns-in-None-clause-indexed
returns-in-None-clause-indexed c = λ known begins fit.
    let m = c.args.number in
    subst (λ (v : Option AtConsumer). Indexes c.args.self.now (at_consumer_moved m (consumer_after v c.args.delivery.now (known m).consumer) known)) (sym c.in-None.is)
    (consumer_rests c.args.self.now m known fit)

pub returns-in-None-clause-touched : goal.returns-in-None-clause-touched
returns-in-None-clause-touched c = λ q k begins f.
    subst (λ (v : Option AtConsumer). (is_touched_in c.args.touched.now k ≡ false) × SameAtConsumer k q (consumer_after v c.args.delivery.now q)) (sym c.in-None.is)
    (f, record { waiting = refl; undecided = refl })

pub returns-in_ok-shift_consumer-in-Some-clause-indexed : goal.returns-in_ok-shift_consumer-in-Some-clause-indexed
returns-in_ok-shift_consumer-in-Some-clause-indexed c = λ known begins fit.
    consumer_followed c.args.self.now c.shift_consumer.new.self c.args.number known c.args.before c.in-Some.before c.args.delivery.now _ _ c.in-Some.is c.of.ensures c.of-in-Some.ensures
    c.in_ok-shift_consumer-in-Some.ensures.indexed begins fit

pub returns-in_ok-shift_consumer-in-Some-clause-touched : goal.returns-in_ok-shift_consumer-in-Some-clause-touched
returns-in_ok-shift_consumer-in-Some-clause-touched c = λ q k begins f.
    let x = c.in_ok-shift_consumer-in-Some.ensures.touched k f in
    (x.0, consumer_touched k q c.args.before c.in-Some.before c.args.delivery.now _ _ c.in-Some.is c.of.ensures c.of-in-Some.ensures x.1 begins)
