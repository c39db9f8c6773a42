use Rattle.std.proofs.Common.{◌≡◌, ◌∙◌, sym, ap, Some}
use Rattle.state_collections.specs.NumberMap.{at_number}
use Rattle.state_deliveries.specs.Indexing.{consumer_if}
use Rattle.state_deliveries.specs.Stepping.{changed}
use Rattle.state_deliveries.proofs.Moving.{change_noted, change_moves, followed_there, touched_there}
use Rattle.state_deliveries.proofs.in_place.change_in.Goals as goal

-- the delivery that is there
was : (c : goal.In_ok-left) → at_number c.args.deliveries.now c.args.number ≡ Some c.as_mut-delivery.result.now
was c = sym c.in-Some.ensures.value ∙ ap Some (sym c.as_mut-delivery.ensures.value)

pub returns-clause-indexed : goal.returns-clause-indexed
returns-clause-indexed c = λ known stood fit.
    followed_there (changed c.args.change.now) (change_noted c.args.change.now) c.args.index.now c.follow.new.self c.args.number known (at_number c.args.deliveries.now c.args.number)
    c.as_mut-delivery.result.now c.change.new.self _ _ (change_moves c.args.change.now) (was c) c.in_ok-change.ensures (c.when-consumer.ensures ∙ ap (λ b. consumer_if b c.as_mut-delivery.result.now) c.moves_consumer.ensures) (ap Some c.of.ensures) c.in_ok-left.ensures.indexed stood fit

pub returns-clause-touched : goal.returns-clause-touched
returns-clause-touched c =
    touched_there (changed c.args.change.now) (change_noted c.args.change.now) c.args.touched.now c.follow.new.touched (at_number c.args.deliveries.now c.args.number)
    c.as_mut-delivery.result.now c.change.new.self _ _ (change_moves c.args.change.now) (was c) c.in_ok-change.ensures (c.when-consumer.ensures ∙ ap (λ b. consumer_if b c.as_mut-delivery.result.now) c.moves_consumer.ensures) (ap Some c.of.ensures) c.in_ok-left.ensures.touched
