use Rattle.std.proofs.Common.{◌≡◌, refl, sym, subst, false, Option}
use Rattle.router_trace.specs.Deliveries.{is_number}
use Rattle.state_deliveries.specs.declared.standing.AtProducer.{AtProducer}
use Rattle.state_deliveries.specs.Indexing.{Indexes, by_producer_moved, producer_after}
use Rattle.state_deliveries.specs.Touching.{is_touched_in}
use Rattle.state_deliveries.proofs.Reindexed.{producer_followed, producer_rests}
use Rattle.state_deliveries.proofs.Touching.{producer_touched}
use Rattle.state_deliveries.proofs.index.Index.follow_by_producer.Goals as goal

pub returns-in-None-clause-indexed : goal.returns-in-None-clause-indexed
returns-in-None-clause-indexed c = λ over known begins fit.
    let m = c.args.number in
    subst (λ (v : Option AtProducer). Indexes c.args.self.now (by_producer_moved m (producer_after v c.args.delivery.now (known m).producer) known)) (sym c.in-None.is)
    (producer_rests c.args.self.now m known fit)

pub returns-in-None-clause-touched : goal.returns-in-None-clause-touched
returns-in-None-clause-touched c = λ over q k begins f.
    subst (λ (v : Option AtProducer). (is_touched_in c.args.touched.now k ≡ false) × (is_number q.held k ≡ is_number (producer_after v c.args.delivery.now q).held k)) (sym c.in-None.is)
    (f, refl)

pub returns-in_ok-shift_producer-in-Some-clause-indexed : goal.returns-in_ok-shift_producer-in-Some-clause-indexed
returns-in_ok-shift_producer-in-Some-clause-indexed c = λ over known begins fit.
    producer_followed c.args.self.now c.shift_producer.new.self c.args.number known c.args.before.now c.in-Some.before c.args.delivery.now _ c.in-Some.is (c.of_kept.ensures over)
    c.in_ok-shift_producer-in-Some.ensures.indexed begins fit

pub returns-in_ok-shift_producer-in-Some-clause-touched : goal.returns-in_ok-shift_producer-in-Some-clause-touched
returns-in_ok-shift_producer-in-Some-clause-touched c = λ over q k begins f.
    let x = c.in_ok-shift_producer-in-Some.ensures.touched k f in
    (x.0, producer_touched k q c.args.before.now c.in-Some.before c.args.delivery.now _ c.in-Some.is (c.of_kept.ensures over) x.1 begins)
