-- Numbers that come at most once, below the one that comes next.
use Rattle.std.proofs.Common.{◌≡◌, ◌∙◌, sym, refl, subst, ℕ, zero, suc, ◌+◌, ◌≤◌, ◌<◌, Bool, true, false, cond, List, [], ◌∷◌, ◌++◌, map, arith, Some, ⊎_elim}
use Rattle.std.specs.Prelude.{◌==◌, find, filter, count_by}
use Rattle.std.specs.List.{All, AllPairs}
use Rattle.std.proofs.lemmas.Bool.{eqb-true, cases_lt}
use Rattle.std.proofs.lemmas.List.Kept.{AllPairs-cons}
use Rattle.book_laws.proofs.Searching.{none_not_some, other_numbers, same_numbers, count_more, count_push, one_more, nothing_found}

pub record Once {V : Type 0} (number : V → ℕ) (next : ℕ) (vs : List V) : Type 0 where
  pub once : (n : ℕ) → count_by (λ v. number v == n) vs ≤ 1
  pub above : (n : ℕ) → next ≤ n → count_by (λ v. number v == n) vs ≡ 0

module _ {V : Type 0} (number : V → ℕ) where
  pub once_none : (next : ℕ) → Once number next []
  once_none next = record { once = λ n. omega arith; above = λ n h. refl }

  pub once_later : (next later : ℕ) (vs : List V) → next ≤ later → Once number next vs → Once number later vs
  once_later next later vs l was = record { once = was.once; above = λ n h. was.above n (omega (arith, l, h)) }

  pub once_push : (next later : ℕ) (vs : List V) (v : V) → Once number next vs
      → count_by (λ w. number w == number v) vs ≡ 0 → number v < later → next ≤ later
      → Once number later (vs ++ v ∷ [])
  once_push next later vs v was new low l = record {
    once = λ n. one_more (λ w. number w == n) vs v (was.once n)
        (λ e. subst (λ (k : ℕ). count_by (λ w. number w == k) vs ≡ 0) (eqb-true (number v) n e) new);
    above = λ n h. count_push (λ w. number w == n) vs v
        ∙ sum (count_by (λ w. number w == n) vs) (number v == n) (was.above n (omega (arith, l, h)))
        (other_numbers (number v) n (omega (arith, low, h)));
  }
    where
      sum : (k : ℕ) (b : Bool) → k ≡ 0 → b ≡ false → k + cond b 1 0 ≡ 0
      sum k true e f = absurd cc
      sum k false e f = omega (arith, e)

  -- one that is found is below the next
  pub found_low : (next n : ℕ) (vs : List V) (v : V) → Once number next vs → find (λ w. number w == n) vs ≡ Some v
      → n < next
  found_low next n vs v was is = ⊎_elim (λ l. l)
      (λ h. absurd (none_not_some (sym (nothing_found (λ w. number w == n) vs (was.above n h)) ∙ is))) (cases_lt n next)

  -- in rising order

  abbrev pub AllAbove : ℕ → List V → Type 0
  AllAbove n [] = Unit {0}
  AllAbove n (v ∷ vs) = (n < number v) × AllAbove n vs

  abbrev pub Rises : List V → Type 0
  Rises [] = Unit {0}
  Rises (v ∷ vs) = AllAbove (number v) vs × Rises vs

  -- a number that none has, from the next on, is above all
  pub rises_push : (next : ℕ) (vs : List V) (v : V) → Rises vs
      → ((n : ℕ) → next ≤ n → count_by (λ w. number w == n) vs ≡ 0) → number v ≡ next → Rises (vs ++ v ∷ [])
  rises_push next [] v up above is = (tt, tt)
  rises_push next (w ∷ vs) v up above is = (higher vs up.0, rises_push next vs v up.1 (λ n h. rest n (above n h)) is)
    where
      rest : (n : ℕ) → count_by (λ w. number w == n) (w ∷ vs) ≡ 0 → count_by (λ w. number w == n) vs ≡ 0
      rest n none = omega (arith, count_more (λ w. number w == n) w vs, none)

      low : number w < number v
      low = ⊎_elim (λ l. omega (arith, l, is))
          (λ h. absurd (one (number w == number w) (same_numbers (number w) (number w) refl)
          (sym (count_more (λ x. number x == number w) w vs) ∙ above (number w) h))) (cases_lt (number w) next)
        where
          one : (b : Bool) → b ≡ true → cond b 1 0 + count_by (λ x. number x == number w) vs ≡ 0 → ⊥
          one true e none = omega (arith, none)
          one false e none = cc

      higher : (us : List V) → AllAbove (number w) us → AllAbove (number w) (us ++ v ∷ [])
      higher [] all = (low, tt)
      higher (u ∷ us) all = (all.0, higher us all.1)

  above_filter : (keep : V → Bool) (n : ℕ) (vs : List V) → AllAbove n vs → AllAbove n (filter keep vs)
  above_filter keep n [] all = tt
  above_filter keep n (v ∷ vs) all = by (keep v) (above_filter keep n vs all.1)
    where
      by : (b : Bool) → AllAbove n (filter keep vs) → AllAbove n (cond b (v ∷ filter keep vs) (filter keep vs))
      by true rest = (all.0, rest)
      by false rest = rest

  pub rises_filter : (keep : V → Bool) (vs : List V) → Rises vs → Rises (filter keep vs)
  rises_filter keep [] up = tt
  rises_filter keep (v ∷ vs) up = by (keep v) (rises_filter keep vs up.1)
    where
      by : (b : Bool) → Rises (filter keep vs) → Rises (cond b (v ∷ filter keep vs) (filter keep vs))
      by true rest = (above_filter keep (number v) vs up.0, rest)
      by false rest = rest

  all_above : (n : ℕ) (vs : List V) → AllAbove n vs → All (λ (v : V). n < number v) vs
  all_above n [] all k d l = absurd (omega (arith, l))
  all_above n (v ∷ vs) all zero d l = all.0
  all_above n (v ∷ vs) all (suc k) d l = all_above n vs all.1 k d (omega (arith, l))

  pub rises_pairs : (vs : List V) → Rises vs → AllPairs (λ (v w : V). number v < number w) vs
  rises_pairs [] up = λ i j d less l. absurd (omega (arith, l))
  rises_pairs (v ∷ vs) up = AllPairs-cons (λ (v w : V). number v < number w) v vs (all_above (number v) vs up.0)
      (rises_pairs vs up.1)

module _ {V W : Type 0} (number : V → ℕ) (shown : W → ℕ) (f : V → W) (same : (v : V) → shown (f v) ≡ number v) where
  above_mapped : (n : ℕ) (vs : List V) → AllAbove number n vs → AllAbove shown n (map f vs)
  above_mapped n [] all = tt
  above_mapped n (v ∷ vs) all = (subst (λ (k : ℕ). n < k) (sym (same v)) all.0, above_mapped n vs all.1)

  pub rises_mapped : (vs : List V) → Rises number vs → Rises shown (map f vs)
  rises_mapped [] up = tt
  rises_mapped (v ∷ vs) up = (
    subst (λ (k : ℕ). AllAbove shown k (map f vs)) (sym (same v))
        (above_mapped (number v) vs up.0),
    rises_mapped vs up.1,
  )
