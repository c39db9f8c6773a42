use Rattle.std.proofs.Common.{◌≡◌, ℕ, false, None, drop}
use Rattle.amqp_session.specs.Ranges.{has}
use Rattle.state_collections.specs.NumberMap.{in_places, at_number, or_else}
use Rattle.state_collections.proofs.number_map.NumberMap.widen.Given as goal

-- what is still in the few places stands before what is here, and is the values of the numbers still to come
abbrev pub invariant-loop-number : goal.invariant-loop-number
invariant-loop-number g l = record {
  same : (q : ℕ) → or_else (in_places l.few q) (at_number l.self q) ≡ at_number l.fn.self q;
  left : (q : ℕ) → has q (drop l.number-index l.number-items) ≡ false → in_places l.few q ≡ None;
}
