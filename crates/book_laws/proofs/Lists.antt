-- Lists all of whose elements, and all of whose pairs, are as said: through one more element, and through changes.
use Rattle.std.proofs.Common.{◌≡◌, ◌∙◌, sym, ap, refl, subst, ℕ, suc, ◌+◌, ◌≤◌, Bool, true, false, cond, ◌||◌, ◌&&◌, List, [], ◌∷◌, ◌++◌, length, arith, Option, Some, None}
use Rattle.std.specs.Prelude.{filter, filter_map, count_by}
use Rattle.std.specs.List.{AllByRecursion, AllPairs, cons_option, list_any, list_all}
use Rattle.std.proofs.lemmas.List.Elements.{All-from_recursion, recursion_from_All}
use Rattle.std.proofs.lemmas.List.Kept.{AllPairs-cons}
use Rattle.book_laws.proofs.Searching.{by_case, one_way, count_more}

module _ {V : Type 0} (R : V → V → Type 0) where
  -- each element, and each after it
  abbrev pub Pairs : List V → Type 0
  Pairs [] = Unit {0}
  Pairs (v ∷ vs) = AllByRecursion (R v) vs × Pairs vs

  pub pairs_of : (vs : List V) → AllPairs R vs → Pairs vs
  pairs_of [] h = tt
  pairs_of (v ∷ vs) h = (
    recursion_from_All (R v) vs (λ k d l. h 0 (suc k) d (omega arith) (omega (arith, l))),
    pairs_of vs (λ i j d less l. h (suc i) (suc j) d (omega (arith, less)) (omega (arith, l))),
  )

  pub all_pairs : (vs : List V) → Pairs vs → AllPairs R vs
  all_pairs [] h = λ i j d less l. absurd (omega (arith, l))
  all_pairs (v ∷ vs) h = AllPairs-cons R v vs (All-from_recursion (R v) vs h.0) (all_pairs vs h.1)

module _ {V : Type 0} (P : V → Type 0) where
  pub each_push : (vs : List V) (v : V) → AllByRecursion P vs → P v → AllByRecursion P (vs ++ v ∷ [])
  each_push [] v all last = (last, tt)
  each_push (w ∷ vs) v all last = (all.0, each_push vs v all.1 last)

module _ {V : Type 0} (R : V → V → Type 0) where
  pub pairs_push : (vs : List V) (v : V) → Pairs R vs → AllByRecursion (λ (u : V). R u v) vs → Pairs R (vs ++ v ∷ [])
  pairs_push [] v h last = (tt, tt)
  pairs_push (w ∷ vs) v h last = (each_push (R w) vs v h.0 last.0, pairs_push vs v h.1 last.1)

module _ {V : Type 0} (P Q : V → Type 0) where
  pub each : ((v : V) → P v → Q v) → (vs : List V) → AllByRecursion P vs → AllByRecursion Q vs
  each more [] all = tt
  each more (v ∷ vs) all = (more v all.0, each more vs all.1)

module _ {V : Type 0} (P Q S : V → Type 0) where
  pub each_both : ((v : V) → P v → Q v → S v) → (vs : List V) → AllByRecursion P vs → AllByRecursion Q vs
      → AllByRecursion S vs
  each_both more [] all other = tt
  each_both more (v ∷ vs) all other = (more v all.0 other.0, each_both more vs all.1 other.1)

module _ {V : Type 0} (R S : V → V → Type 0) where
  pub pairs_more : ((v w : V) → R v w → S v w) → (vs : List V) → Pairs R vs → Pairs S vs
  pairs_more more [] h = tt
  pairs_more more (v ∷ vs) h = (each (R v) (S v) (more v) vs h.0, pairs_more more vs h.1)

module _ {V : Type 0} (R S T : V → V → Type 0) where
  pub pairs_both : ((v w : V) → R v w → S v w → T v w) → (vs : List V) → Pairs R vs → Pairs S vs → Pairs T vs
  pairs_both more [] h g = tt
  pairs_both more (v ∷ vs) h g = (each_both (R v) (S v) (T v) (more v) vs h.0 g.0, pairs_both more vs h.1 g.1)

-- a test that none passes

module _ {V : Type 0} (test : V → Bool) where
  either_none : (b c : Bool) → (b || c) ≡ false → (b ≡ false) × (c ≡ false)
  either_none true c h = absurd cc
  either_none false c h = (refl, h)

  pub each_fails : (vs : List V) → list_any test vs ≡ false → AllByRecursion (λ (v : V). test v ≡ false) vs
  each_fails [] h = tt
  each_fails (v ∷ vs) h =
      let both = either_none (test v) (list_any test vs) h in (both.0, each_fails vs both.1)

  pub none_push : (vs : List V) (v : V) → list_any test vs ≡ false → test v ≡ false
      → list_any test (vs ++ v ∷ []) ≡ false
  none_push [] v h last = rw last refl
  none_push (w ∷ vs) v h last =
      let both = either_none (test w) (list_any test vs) h in rw both.0 (none_push vs v both.1 last)

  pub all_pass : (vs : List V) → AllByRecursion (λ (v : V). test v ≡ true) vs → list_all test vs ≡ true
  all_pass [] h = refl
  all_pass (v ∷ vs) h = rw h.0 (all_pass vs h.1)

  both_true : (b c : Bool) → (b && c) ≡ true → (b ≡ true) × (c ≡ true)
  both_true true c h = (refl, h)
  both_true false c h = absurd cc

  pub each_passes : (vs : List V) → list_all test vs ≡ true → AllByRecursion (λ (v : V). test v ≡ true) vs
  each_passes [] h = tt
  each_passes (v ∷ vs) h =
      let both = both_true (test v) (list_all test vs) h in (both.0, each_passes vs both.1)

  -- what holds if there is one that passes, and if there is none, holds
  pub any_or_none : (K : Type 0) → (vs : List V) → AllByRecursion (λ (v : V). test v ≡ true → K) vs
      → (count_by test vs ≡ 0 → K) → K
  any_or_none K [] all none = none refl
  any_or_none K (v ∷ vs) all none = by_case (test v) all.0 (λ e. any_or_none K vs all.1 (λ z. none (without e z)))
    where
      without : test v ≡ false → count_by test vs ≡ 0 → count_by test (v ∷ vs) ≡ 0
      without e z = count_more test v vs ∙ ap (λ (b : Bool). cond b 1 0 + count_by test vs) e ∙ omega (arith, z)

-- a change of some elements, and without others

module _ {V : Type 0} (P Q : V → Type 0) (change : V → Option V)
    (kept : (v w : V) → change v ≡ Some w → P v → Q w) where
  pub each_changed : (vs : List V) → AllByRecursion P vs → AllByRecursion Q (filter_map change vs)
  each_changed [] all = tt
  each_changed (v ∷ vs) all = by (change v) refl (each_changed vs all.1)
    where
      by : (o : Option V) → change v ≡ o → AllByRecursion Q (filter_map change vs)
          → AllByRecursion Q (cons_option o (filter_map change vs))
      by None e rest = rest
      by (Some w) e rest = (kept v w e all.0, rest)

module _ {V : Type 0} (R : V → V → Type 0) (change : V → Option V)
    (kept : (v w v' w' : V) → change v ≡ Some v' → change w ≡ Some w' → R v w → R v' w') where
  pub pairs_changed : (vs : List V) → Pairs R vs → Pairs R (filter_map change vs)
  pairs_changed [] h = tt
  pairs_changed (v ∷ vs) h = by (change v) refl (pairs_changed vs h.1)
    where
      by : (o : Option V) → change v ≡ o → Pairs R (filter_map change vs)
          → Pairs R (cons_option o (filter_map change vs))
      by None e rest = rest
      by (Some v') e rest =
          (each_changed (R v) (R v') change (λ w w' f. kept v w v' w' e f) vs h.0, rest)

module _ {V : Type 0} (test : V → Bool) (change : V → Option V)
    (kept : (v w : V) → change v ≡ Some w → test w ≡ true → test v ≡ true) where
  pub count_changed : (vs : List V) → count_by test (filter_map change vs) ≤ count_by test vs
  count_changed [] = omega arith
  count_changed (v ∷ vs) = by (change v) refl (count_changed vs)
    where
      less : (b c : Bool) (n m k : ℕ) → (b ≡ true → c ≡ true) → n ≤ m → k ≡ cond b 1 0 + n → k ≤ cond c 1 0 + m
      less true true n m k e l is = omega (arith, l, is)
      less true false n m k e l is = absurd (one_way (e refl))
      less false true n m k e l is = omega (arith, l, is)
      less false false n m k e l is = omega (arith, l, is)

      by : (o : Option V) → change v ≡ o → count_by test (filter_map change vs) ≤ count_by test vs
          → count_by test (cons_option o (filter_map change vs)) ≤ count_by test (v ∷ vs)
      by None e rest = omega (arith, rest, count_more test v vs)
      by (Some w) e rest =
          subst (λ (n : ℕ). count_by test (w ∷ filter_map change vs) ≤ n) (sym (count_more test v vs))
          (less (test w) (test v) (count_by test (filter_map change vs)) (count_by test vs)
          (count_by test (w ∷ filter_map change vs)) (kept v w e) rest (count_more test w (filter_map change vs)))

module _ {V : Type 0} (change : V → Option V) where
  pub fewer : (vs : List V) → length (filter_map change vs) ≤ length vs
  fewer [] = omega arith
  fewer (v ∷ vs) = by (change v) (fewer vs)
    where
      by : (o : Option V) → length (filter_map change vs) ≤ length vs
          → length (cons_option o (filter_map change vs)) ≤ length (v ∷ vs)
      by None rest = omega (arith, rest)
      by (Some w) rest = omega (arith, rest)

module _ {V : Type 0} (keep : V → Bool) where
  pub at_most_filter : (vs : List V) → length (filter keep vs) ≤ length vs
  at_most_filter [] = omega arith
  at_most_filter (v ∷ vs) = by (keep v) (at_most_filter vs)
    where
      by : (b : Bool) → length (filter keep vs) ≤ length vs
          → length (cond b (v ∷ filter keep vs) (filter keep vs)) ≤ length (v ∷ vs)
      by true rest = omega (arith, rest)
      by false rest = omega (arith, rest)
