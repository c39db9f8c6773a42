use Rattle.std.proofs.Common.{◌≤◌}
use Rattle.state_collections.specs.Among.{is_among, IsLeast}
use Rattle.state_collections.proofs.few.Few.lowest.Given as goal

-- the lowest at the places so far
abbrev pub invariant-loop-place : goal.invariant-loop-place
invariant-loop-place l = (l.place ≤ l.fn.self.count) × IsLeast (λ n. is_among l.place l.fn.self.places n) l.least
