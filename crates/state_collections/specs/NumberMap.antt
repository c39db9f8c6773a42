-- The values of a table by number, of which each stands in the place of its number, or in an ordered map.
use Rattle.std.specs.Prelude.{◌≡◌, ◌==◌, ◌&&◌, ◌||◌, ℕ, Bool, true, false, Option, Some, None, bit_and, slice_get, if◌then◌else◌}
use Rattle.std.specs.Option.{is_some, option_map}
use Rattle.std.specs.Borrow.{LendsSo, MutBor, Fml, RattleType}
use Rattle.std.specs.Ordering.{nat_cmp}
use Rattle.std.specs.BTreeMap.{get}
use Rattle.std.specs.BTreeMap.Range.{range_contains}
use Rattle.std.specs.declared.ops.Bound.TheVariants.{Included}
use Rattle.state_collections.specs.declared.number_map.NumberMap.{NumberMap}
use Rattle.state_collections.specs.declared.number_map.Places.{Places}
use Rattle.state_collections.specs.declared.number_map.Entry.{Entry}
use Rattle.state_collections.specs.contracts.number_map.NumberMap.{the_row}
use Rattle.state_collections.specs.contracts.number_map.Places as places

-- what a place, if there is one, has for a number
abbrev pub at_place : {V : Type 0} → ℕ → Option (Option (Entry V)) → Option V
at_place n None = None
at_place n (Some None) = None
at_place n (Some (Some entry)) = if entry.number == n then Some entry.value else None

abbrev pub in_places : {V : Type 0} → Places V → ℕ → Option V
in_places s n = at_place n (slice_get s.places.items (bit_and n s.mask))

-- the value in the number's place, or else in the map
abbrev pub or_else : {V : Type 0} → Option V → Option V → Option V
or_else None other = other
or_else (Some value) other = Some value

abbrev pub at_number : {V : Type 0} → NumberMap V → ℕ → Option V
at_number s n = or_else (in_places s.placed n) (get nat_cmp s.others n)

-- a number has a value in its place, or in the map between a lowest number and a highest
abbrev pub is_listed : {V : Type 0} → NumberMap V → ℕ → ℕ → ℕ → Bool
is_listed s low high n = is_some (in_places s.placed n) || (range_contains nat_cmp (Included low) (Included high) n && is_some (get nat_cmp s.others n))

-- there is a place, and it has no value of another number
abbrev pub is_free_for : {V : Type 0} → ℕ → Option (Option (Entry V)) → Bool
is_free_for n None = false
is_free_for n (Some None) = true
is_free_for n (Some (Some entry)) = entry.number == n

-- no place, or one without a value
abbrev pub no_entry : {V : Type 0} → Option (Option (Entry V)) → Bool
no_entry (Some (Some entry)) = false
no_entry place = true

-- an entry is that of a number, which has a value if so
abbrev pub tells : {V : Type 0} → Bool → ℕ → Option (Entry V) → Bool
tells has n None = false
tells has n (Some entry) = (n == entry.number) && has

-- What was written last is the value of this number, if it had one, and all others have what they had before.
abbrev pub LendsNumbered : (V : RattleType) → MutBor (NumberMap V.Denot) → ℕ → Option (MutBor V.Denot) → Fml
LendsNumbered V s number lent = LendsSo (the_row V) V s lent
    (λ now w. (q : ℕ) → at_number now q ≡ (if number == q then option_map (λ _. w) (at_number s.now q) else at_number s.now q))
    (λ now. (q : ℕ) → at_number now q ≡ at_number s.now q)

abbrev pub LendsPlaced : (V : RattleType) → MutBor (Places V.Denot) → ℕ → Option (MutBor V.Denot) → Fml
LendsPlaced V s number lent = LendsSo (places.the_row V) V s lent
    (λ now w. (q : ℕ) → in_places now q ≡ (if number == q then option_map (λ _. w) (in_places s.now q) else in_places s.now q))
    (λ now. (q : ℕ) → in_places now q ≡ in_places s.now q)
