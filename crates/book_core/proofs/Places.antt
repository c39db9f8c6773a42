-- Which place has a number, where the numbers rise.
use Rattle.std.proofs.Common.{◌≡◌, ℕ, ◌<◌, ◌≤◌, suc, zero, List, [], ◌∷◌, length, get_or, Err, arith, ⊎_elim}
use Rattle.std.proofs.lemmas.Bool.{cases_lt}
use Rattle.std.proofs.lemmas.Bool.Decides.{nat_tests}
use Rattle.std.specs.Ordering.{nat_cmp, ordering_index}
use Rattle.std.specs.declared.cmp.Ordering.TheVariants.{Less, Equal, Greater}
use Rattle.std.specs.List.{HoldsAt}
use Rattle.std.specs.List.Sorted.{IsBinarySearchResult}
use Rattle.book_core.specs.Rising.{Rises, AllAbove, Lacks, IsAt}

equal_numbers : (a b : ℕ) → nat_cmp a b ≡ Equal → a ≡ b
equal_numbers a b h = grind (arith, nat_tests)

less_number : (a b : ℕ) → nat_cmp a b ≡ Less → a < b
less_number a b h = grind (arith, nat_tests)

greater_number : (a b : ℕ) → nat_cmp a b ≡ Greater → b < a
greater_number a b h = grind (arith, nat_tests)

higher : (a b n : ℕ) → a ≤ b → ordering_index (nat_cmp a n) ≤ ordering_index (nat_cmp b n)
higher a b n h = grind (arith, nat_tests)

module _ {S : Type 0} (number : S → ℕ) where
  above_at : (n : ℕ) (xs : List S) (i : ℕ) (d : S) → AllAbove number n xs → i < length xs → n < number (get_or xs i d)
  above_at n [] i d h l = absurd (omega arith)
  above_at n (x ∷ xs) zero d h l = h.0
  above_at n (x ∷ xs) (suc i) d h l = above_at n xs i d h.1 (omega arith)

  rises_at : (xs : List S) (i j : ℕ) (d : S) → Rises number xs → i ≤ j → j < length xs → number (get_or xs i d) ≤ number (get_or xs j d)
  rises_at [] i j d h le l = absurd (omega arith)
  rises_at (x ∷ xs) zero zero d h le l = omega arith
  rises_at (x ∷ xs) zero (suc j) d h le l = let above = above_at (number x) xs j d h.0 (omega arith) in omega (arith, above)
  rises_at (x ∷ xs) (suc i) zero d h le l = absurd (omega arith)
  rises_at (x ∷ xs) (suc i) (suc j) d h le l = rises_at xs i j d h.1 (omega arith) (omega arith)

  lacks_each : (n : ℕ) (xs : List S) → ((k : ℕ) (d : S) → k < length xs → number (get_or xs k d) ≡ n → ⊥) → Lacks number n xs
  lacks_each n [] h = tt
  lacks_each n (x ∷ xs) h = (h 0 x (omega arith), lacks_each n xs (λ k d l. h (suc k) d (omega arith)))

  pub found_at : (n : ℕ) (xs : List S) (i : ℕ) → i < length xs → HoldsAt (λ y. nat_cmp (number y) n ≡ Equal) xs i → IsAt number n xs i
  found_at n xs i l h = record { inside = l; is = λ d. equal_numbers _ _ (h d) }

  pub missing_at : (n : ℕ) (xs : List S) (i : ℕ) → IsBinarySearchResult (λ y. nat_cmp (number y) n) xs (Err i) → Rises number xs → Lacks number n xs
  missing_at n xs i h up =
      let parted = h (λ a b d le l. higher (number (get_or xs a d)) (number (get_or xs b d)) n (rises_at xs a b d up le l)) in
      lacks_each n xs (λ k d l e. ⊎_elim
      (λ (below : k < i). let less : number (get_or xs k d) < n = less_number (number (get_or xs k d)) n (parted.0 k d (omega arith) below) in absurd (omega arith))
      (λ (above : i ≤ k). let greater : n < number (get_or xs k d) = greater_number (number (get_or xs k d)) n (parted.1 k d above l) in absurd (omega arith))
      (cases_lt k i))
