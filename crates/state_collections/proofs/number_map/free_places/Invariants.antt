use Rattle.std.proofs.Common.{◌≡◌, ℕ, true}
use Rattle.std.specs.Prelude.{slice_get}
use Rattle.state_collections.specs.NumberMap.{no_entry}
use Rattle.state_collections.proofs.number_map.free_places.Given as goal

-- no place has a value so far
abbrev pub invariant-loop : goal.invariant-loop
invariant-loop g l = (i : ℕ) → no_entry (slice_get l.places.items i) ≡ true
