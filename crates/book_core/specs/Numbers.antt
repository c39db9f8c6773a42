-- Numbers by key, and what stood there before changes.
use Rattle.std.specs.Prelude.{ℕ, Option, None, Some, List, [], ◌∷◌, if◌then◌else◌, option_map}
use Rattle.std.specs.BTreeMap.{get}
use Rattle.std.specs.Ordering.{is_eq}
use Rattle.std.specs.declared.cmp.Ordering.{Ordering}
use Rattle.book_core.specs.declared.numbers.Earlier.{Earlier}
use Rattle.book_core.specs.declared.numbers.Numbers.{Numbers}

-- a number, 0 where there is none
abbrev pub or_zero : Option ℕ → ℕ
or_zero None = 0
or_zero (Some n) = n

-- the number at a key
abbrev pub number_at : {K : Type 0} → (K → K → Ordering) → Numbers K → K → ℕ
number_at cmp numbers key = or_zero (get cmp numbers.numbers key)

-- what is at a key after its last change is undone: what was there before, or nothing
abbrev pub back : Option ℕ → Option ℕ → Option ℕ
back None now = None
back (Some n) now = option_map (λ _. n) now

abbrev pub undone : {K : Type 0} → (K → K → Ordering) → Earlier K → (K → Option ℕ) → K → Option ℕ
undone cmp change numbers key = if is_eq (cmp change.key key) then back change.number (numbers key) else numbers key

-- the numbers before these changes, the oldest of which comes first
unfoldable pub earlier : {K : Type 0} → (K → K → Ordering) → List (Earlier K) → (K → Option ℕ) → K → Option ℕ
earlier cmp [] numbers = numbers
earlier cmp (change ∷ changes) numbers = undone cmp change (earlier cmp changes numbers)
