use Rattle.std.proofs.Common.{◌≡◌}
use Rattle.serve_lock.specs.Adding.{sums}
use Rattle.serve_lock.proofs.totals.Totals.add_up.Given as goal

abbrev pub invariant-loop-seat : goal.invariant-loop-seat
invariant-loop-seat g l = (l.gathering.1 ≡ sums l.yielded) × (l.gathering.0 ≡ l.fn.self)
