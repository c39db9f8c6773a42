-- The value at an address, where one stands in place.
use Rattle.std.specs.Prelude.{◌≡◌, ◌==◌, ◌&&◌, not, ℕ, Bool, true, List, length, Option, Some, None, is_some, if◌then◌else◌}
use Rattle.std.specs.Option.{option_map}
use Rattle.std.specs.Borrow.{LendsSo, MutBor, Fml, RattleType}
use Rattle.std.specs.Str.{bytes_eq}
use Rattle.state_pools.specs.Addresses.{at_address}
use Rattle.state_pools.specs.declared.by_bytes.ByBytes.{ByBytes}
use Rattle.state_pools.specs.declared.by_bytes.Place.{Place}
use Rattle.state_pools.specs.contracts.by_bytes.ByBytes.{the_row}

-- the value in place, if it is at this address
abbrev pub first_at : {V : Type 0} → Option (Place V) → List ℕ → Option V
first_at None address = None
first_at (Some place) address = if bytes_eq address place.address.items then Some place.value else None

abbrev pub or_else : {V : Type 0} → Option V → Option V → Option V
or_else None other = other
or_else (Some value) other = Some value

abbrev pub at : {V : Type 0} → ByBytes V → List ℕ → Option V
at values address = or_else (first_at values.first address) (at_address values.more.entries (λ k. k.items) address)

abbrev pub has_none : {V : Type 0} → ByBytes V → Bool
has_none values = not (is_some values.first) && (length values.more.entries == 0)

-- What was written last is at this address, if a value was there, and at all others what was there before.
abbrev pub LendsAt : (V : RattleType) → MutBor (ByBytes V.Denot) → List ℕ → Option (MutBor V.Denot) → Fml
LendsAt V values address lent = LendsSo (the_row V) V values lent
    (λ now w. (a : List ℕ) → at now a ≡ (if bytes_eq address a then option_map (λ _. w) (at values.now a) else at values.now a))
    (λ now. (a : List ℕ) → at now a ≡ at values.now a)

-- the same, if a value was there
abbrev pub LendsThere : (V : RattleType) → MutBor (ByBytes V.Denot) → List ℕ → Option (MutBor V.Denot) → Fml
LendsThere V values address lent = LendsSo (the_row V) V values lent
    (λ now w. is_some (at values.now address) ≡ true → (a : List ℕ) → at now a ≡ (if bytes_eq address a then option_map (λ _. w) (at values.now a) else at values.now a))
    (λ now. (a : List ℕ) → at now a ≡ at values.now a)
