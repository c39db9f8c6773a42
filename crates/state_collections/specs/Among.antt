-- Numbers among a few places, and the lowest that passes a test.
use Rattle.std.specs.Prelude.{◌≡◌, ◌==◌, ◌<◌, ◌||◌, ℕ, zero, suc, Bool, true, false, List, [], ◌∷◌, Option, Some, None}

-- one of the first so many places has the number
unfoldable pub is_among : ℕ → List ℕ → ℕ → Bool
is_among zero xs n = false
is_among (suc count) [] n = false
is_among (suc count) (x ∷ xs) n = x == n || is_among count xs n

-- the lowest number that passes, if any does
abbrev pub IsLeast : (ℕ → Bool) → Option ℕ → Type 0
IsLeast passes None = (n : ℕ) → passes n ≡ false
IsLeast passes (Some least) = (passes least ≡ true) × ((n : ℕ) → n < least → passes n ≡ false)
