use Rattle.std.proofs.Common.{◌≡◌}
use Rattle.serve_lock.proofs.shared.Shared.wait_batch.Given as goal

abbrev pub invariant-loop-turn : goal.invariant-loop-turn
invariant-loop-turn g l =
    (goal.iterator-loop-turn g).can_next l._turn-iterator ×
    (goal.iterator-loop-turn g).is_finite l._turn-iterator ×
    (l.seat ≡ l.fn.seat)
