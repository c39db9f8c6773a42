use Rattle.std.proofs.Common.{◌≡◌, ◌∙◌, sym, ap, Some}
use Rattle.state_collections.specs.NumberMap.{at_number}
use Rattle.router_trace.specs.Deliveries.{held_by}
use Rattle.state_deliveries.proofs.Moving.{both_noted, followed_there, join_moves, touched_there}
use Rattle.state_deliveries.proofs.in_place.join_in.Goals as goal

-- the delivery that is there
was : (c : goal.In_ok-left) → at_number c.args.deliveries.now c.args.number ≡ Some c.as_mut-delivery.result.now
was c = sym c.in-Some.ensures.value ∙ ap Some (sym c.as_mut-delivery.ensures.value)

pub returns-clause-indexed : goal.returns-clause-indexed
returns-clause-indexed c = λ known stood fit.
    followed_there (held_by c.args.holding) both_noted c.args.index.now c.follow.new.self c.args.number known (at_number c.args.deliveries.now c.args.number)
    c.as_mut-delivery.result.now c.join.new.self _ _ (join_moves c.args.holding) (was c) c.join.ensures (ap Some c.of.ensures) (ap Some c.of-2.ensures) c.in_ok-left.ensures.indexed stood fit

pub returns-clause-touched : goal.returns-clause-touched
returns-clause-touched c =
    touched_there (held_by c.args.holding) both_noted c.args.touched.now c.follow.new.touched (at_number c.args.deliveries.now c.args.number)
    c.as_mut-delivery.result.now c.join.new.self _ _ (join_moves c.args.holding) (was c) c.join.ensures (ap Some c.of.ensures) (ap Some c.of-2.ensures) c.in_ok-left.ensures.touched
