-- What a table has where the contents of all its values are forgotten.
use Rattle.std.proofs.Common.{◌≡◌, ◌∙◌, ℕ, zero, suc, Bool, true, false, refl, ap, cond, List, [], ◌∷◌, Option, Some, None}
use Rattle.std.specs.Prelude.{◌==◌, if◌then◌else◌, slice_get, map, bit_and}
use Rattle.std.specs.Option.{option_map}
use Rattle.std.specs.List.Retain.{RetainsInTurn}
use Rattle.state_collections.specs.declared.number_map.Entry.{Entry}
use Rattle.state_collections.specs.NumberMap.{at_place, or_else}
use Rattle.state_collections.specs.Emptying.{with_rest}

-- a walk that keeps each element and changes it in one way is a map
pub walked : {S X : Type 0} (R : S → X → Bool → S → X → Type 0) (change : X → X) → ((s : S) (x : X) (b : Bool) (t : S) (y : X) → R s x b t y → (b ≡ true) × (y ≡ change x))
    → (s : S) (xs ys : List X) → RetainsInTurn R s xs ys → ys ≡ map change xs
walked R change each s [] ys turns = turns
walked R change each s (x ∷ xs) ys turns =
    let said = each s x turns.0 turns.1 turns.2 turns.3 in
    let rest = walked R change each turns.1 xs turns.4 turns.5 in
    turns.6 ∙ ap (λ b. cond b (turns.2 ∷ turns.4) turns.4) said.0 ∙ (λ i. said.1 i ∷ rest i)

get_map : {X : Type 0} (change : X → X) (xs : List X) (i : ℕ) → slice_get (map change xs) i ≡ option_map change (slice_get xs i)
get_map change [] i = refl
get_map change (x ∷ xs) zero = refl
get_map change (x ∷ xs) (suc i) = get_map change xs i

at_emptied : {V : Type 0} (rest : V → V) (n : ℕ) (place : Option (Option (Entry V))) → at_place n (option_map (option_map (with_rest rest)) place) ≡ option_map rest (at_place n place)
at_emptied rest n None = refl
at_emptied rest n (Some None) = refl
at_emptied rest n (Some (Some entry)) = by (entry.number == n)
  where
    by : (b : Bool) → (if b then Some (rest entry.value) else None) ≡ option_map rest (if b then Some entry.value else None)
    by true = refl
    by false = refl

-- what a number has in its place
pub emptied_at : {V : Type 0} (rest : V → V) (places changed : List (Option (Entry V))) (mask n : ℕ) → changed ≡ map (option_map (with_rest rest)) places
    → at_place n (slice_get changed (bit_and n mask)) ≡ option_map rest (at_place n (slice_get places (bit_and n mask)))
emptied_at rest places changed mask n is =
    ap (λ ps. at_place n (slice_get ps (bit_and n mask))) is
    ∙ ap (at_place n) (get_map (option_map (with_rest rest)) places (bit_and n mask))
    ∙ at_emptied rest n (slice_get places (bit_and n mask))

-- what it has there or else in the map
pub emptied_or : {V : Type 0} (rest : V → V) (place other : Option V) → or_else (option_map rest place) (option_map rest other) ≡ option_map rest (or_else place other)
emptied_or rest None other = refl
emptied_or rest (Some value) other = refl
