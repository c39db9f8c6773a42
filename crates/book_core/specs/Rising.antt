-- Numbers that rise.
use Rattle.std.specs.Prelude.{◌≡◌, ℕ, ◌<◌, List, [], ◌∷◌, length, slice_index_or}

module _ {S : Type 0} (number : S → ℕ) where
  -- each has a number above n
  abbrev pub AllAbove : ℕ → List S → Type 0
  AllAbove n [] = Unit {0}
  AllAbove n (s ∷ ss) = (n < number s) × AllAbove n ss

  -- each has a number below those of all after it
  abbrev pub Rises : List S → Type 0
  Rises [] = Unit {0}
  Rises (s ∷ ss) = AllAbove (number s) ss × Rises ss

  -- each has a number below n
  abbrev pub AllBelow : ℕ → List S → Type 0
  AllBelow n [] = Unit {0}
  AllBelow n (s ∷ ss) = (number s < n) × AllBelow n ss

  -- none has the number n
  abbrev pub Lacks : ℕ → List S → Type 0
  Lacks n [] = Unit {0}
  Lacks n (s ∷ ss) = (number s ≡ n → ⊥) × Lacks n ss

  -- the one at this place has the number n
  pub record IsAt (n : ℕ) (ss : List S) (at : ℕ) : Type 0 where
    pub inside : at < length ss
    pub is : (d : S) → number (slice_index_or ss at d) ≡ n
