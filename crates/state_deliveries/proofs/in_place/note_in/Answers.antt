use Rattle.std.proofs.Common.{◌≡◌, ◌∙◌, sym, ap, Some}
use Rattle.state_collections.specs.NumberMap.{at_number}
use Rattle.router_trace.specs.Deliveries.{after_frame}
use Rattle.state_deliveries.specs.Indexing.{producer_if}
use Rattle.state_deliveries.proofs.Moving.{frame_noted, followed_there, frame_moves, touched_there}
use Rattle.state_deliveries.proofs.in_place.note_in.Goals as goal

-- the delivery that is there
was : (c : goal.In_ok-left) → at_number c.args.deliveries.now c.args.number ≡ Some c.as_mut-delivery.result.now
was c = sym c.in-Some.ensures.value ∙ ap Some (sym c.as_mut-delivery.ensures.value)

pub returns-clause-indexed : goal.returns-clause-indexed
returns-clause-indexed c = λ known stood fit.
    followed_there (after_frame c.args.transfer.now c.args.count) (frame_noted c.args.transfer.now) c.args.index.now c.follow.new.self c.args.number known (at_number c.args.deliveries.now c.args.number)
    c.as_mut-delivery.result.now c.note_frame.new.self _ _ (frame_moves c.args.transfer.now c.args.count) (was c) c.in_ok-note_frame.ensures (ap Some c.of.ensures) (c.when-producer.ensures ∙ ap (λ b. producer_if b c.as_mut-delivery.result.now) c.is_decided_with.ensures) c.in_ok-left.ensures.indexed stood fit

pub returns-clause-touched : goal.returns-clause-touched
returns-clause-touched c =
    touched_there (after_frame c.args.transfer.now c.args.count) (frame_noted c.args.transfer.now) c.args.touched.now c.follow.new.touched (at_number c.args.deliveries.now c.args.number)
    c.as_mut-delivery.result.now c.note_frame.new.self _ _ (frame_moves c.args.transfer.now c.args.count) (was c) c.in_ok-note_frame.ensures (ap Some c.of.ensures) (c.when-producer.ensures ∙ ap (λ b. producer_if b c.as_mut-delivery.result.now) c.is_decided_with.ensures) c.in_ok-left.ensures.touched
