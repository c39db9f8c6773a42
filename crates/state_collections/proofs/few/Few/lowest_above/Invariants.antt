use Rattle.std.proofs.Common.{◌≤◌, ◌&&◌}
use Rattle.std.specs.Prelude.{nat_lt}
use Rattle.state_collections.specs.Among.{is_among, IsLeast}
use Rattle.state_collections.proofs.few.Few.lowest_above.Given as goal

-- the lowest above the number at the places so far
abbrev pub invariant-loop-place : goal.invariant-loop-place
invariant-loop-place l = (l.place ≤ l.fn.self.count) × IsLeast (λ n. nat_lt l.fn.number n && is_among l.place l.fn.self.places n) l.least
