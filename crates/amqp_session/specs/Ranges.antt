-- The range of a disposition (AMQP 1.0 part 2, section 2.7.6): from its first delivery-id to its last, as serial numbers.
use Rattle.std.specs.Prelude.{ℕ, Bool, ◌==◌, ◌&&◌, ◌^◌, List, nat_lt, nat_le}
use Rattle.std.specs.List.{list_any}
use Rattle.std.specs.List.Sorted.{IsStrictlySortedBy}
use Rattle.std.specs.Ordering.{nat_cmp}
use Rattle.std.specs.declared.cmp.Ordering.{Ordering}
use Rattle.amqp_session.specs.Serials.{distance}

-- The last id is the first or after it, and this one is no further from the first than the last is.
abbrev pub in_range : ℕ → ℕ → ℕ → Bool
in_range first last id = nat_lt (distance first last) (2 ^ 31) && nat_le (distance first id) (distance first last)

-- an id is among these
abbrev pub has : ℕ → List ℕ → Bool
has id ids = list_any (λ other. id == other) ids

-- which of two ids is further from the first
abbrev pub by_distance : ℕ → ℕ → ℕ → Ordering
by_distance first a b = nat_cmp (distance first a) (distance first b)

-- each of these is further from the first than those before it
abbrev pub IsRising : ℕ → List ℕ → Type 0
IsRising first ids = IsStrictlySortedBy (by_distance first) ids
