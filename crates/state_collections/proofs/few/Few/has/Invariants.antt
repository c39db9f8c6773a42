use Rattle.std.proofs.Common.{◌≡◌, false}
use Rattle.state_collections.specs.Among.{is_among}
use Rattle.state_collections.proofs.few.Few.has.Given as goal

-- no place so far has the number
abbrev pub invariant-loop-place : goal.invariant-loop-place
invariant-loop-place l = is_among l.place l.fn.self.places l.fn.number ≡ false
