use Rattle.std.proofs.Common.{◌≡◌, length}
use Rattle.std.specs.Str.{bytes_eq}
use Rattle.state_pools.proofs.same.same.Given as goal

-- what is left of both is the same where both are
abbrev pub invariant-loop-first : goal.invariant-loop-first
invariant-loop-first l = bytes_eq l.left l.right ≡ bytes_eq l.fn.one l.fn.other

abbrev pub decreases-loop-first : goal.decreases-loop-first
decreases-loop-first l = length l.left
