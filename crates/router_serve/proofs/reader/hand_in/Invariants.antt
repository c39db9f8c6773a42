use Rattle.router_serve.specs.Submitting.{CountsGone}
use Rattle.router_serve.proofs.reader.hand_in.Given as goal

abbrev pub invariant-loop-item : goal.invariant-loop-item
invariant-loop-item g l =
    (goal.iterator-loop-item g).can_next l.item-iterator × (goal.iterator-loop-item g).is_finite l.item-iterator × CountsGone l.fn.seat l.seat l.yielded l.passed.items
