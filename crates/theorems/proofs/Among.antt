-- What stands in a list, and where it comes from.
use Rattle.std.proofs.Common.{◌≡◌, ◌∙◌, sym, ap, refl, ◌⊎◌, inl, inr, ℕ, zero, suc, Bool, true, false, List, [], ◌∷◌, ◌++◌}
use Rattle.std.specs.Prelude.{Option, Some, None, map, filter, filter_map, if◌then◌else◌}
use Rattle.std.specs.List.{cons_option}
use Rattle.state_deliveries.specs.Deciding.{gathered_below}

module _ (A : Type 0) where
  abbrev pub Stands : A → List A → Type 0
  Stands x [] = ⊥
  Stands x (y ∷ ys) = (y ≡ x) ⊎ Stands x ys

  pub stands_in_both : (x : A) (xs ys : List A) → Stands x (xs ++ ys) → Stands x xs ⊎ Stands x ys
  stands_in_both x [] ys is = inr is
  stands_in_both x (y ∷ xs) ys (inl same) = inl (inl same)
  stands_in_both x (y ∷ xs) ys (inr later) = by (stands_in_both x xs ys later)
    where
      by : Stands x xs ⊎ Stands x ys → Stands x (y ∷ xs) ⊎ Stands x ys
      by (inl is) = inl (inr is)
      by (inr is) = inr is

  pub stands_after : (x : A) (earlier later : List A) → Stands x (earlier ++ x ∷ later)
  stands_after x [] later = inl refl
  stands_after x (y ∷ earlier) later = inr (stands_after x earlier later)

  pub parts : (x : A) (xs : List A) → Stands x xs → (earlier : List A) × (later : List A) × (xs ≡ earlier ++ x ∷ later)
  parts x [] is = absurd is
  parts x (y ∷ ys) (inl same) = ([], ys, ap (λ (z : A). z ∷ ys) same)
  parts x (y ∷ ys) (inr is) = let p = parts x ys is in (y ∷ p.0, p.1, ap (λ (zs : List A). y ∷ zs) p.2)

  pub stands_in_filter : (p : A → Bool) (x : A) (xs : List A) → Stands x (filter p xs) → Stands x xs × (p x ≡ true)
  stands_in_filter p x [] is = absurd is
  stands_in_filter p x (y ∷ ys) is = by (p y) refl is (λ rest. let found = stands_in_filter p x ys rest in (inr found.0, found.1))
    where
      by : (b : Bool) → p y ≡ b → Stands x (if b then y ∷ filter p ys else filter p ys) → (Stands x (filter p ys) → Stands x (y ∷ ys) × (p x ≡ true)) → Stands x (y ∷ ys) × (p x ≡ true)
      by true e (inl same) more = (inl same, ap p (sym same) ∙ e)
      by true e (inr rest) more = more rest
      by false e rest more = more rest

  pub stands_in_gathered : (n : ℕ) (g : ℕ → List A) (x : A) → Stands x (gathered_below n g) → (k : ℕ) × Stands x (g k)
  unfolding gathered_below
  stands_in_gathered zero g x is = absurd is
  stands_in_gathered (suc n) g x is = by (stands_in_both x (gathered_below n g) (g n) is) (stands_in_gathered n g x)
    where
      by : Stands x (gathered_below n g) ⊎ Stands x (g n) → (Stands x (gathered_below n g) → (k : ℕ) × Stands x (g k)) → (k : ℕ) × Stands x (g k)
      by (inl rest) more = more rest
      by (inr here) more = (n, here)

module _ (A B : Type 0) where
  pub stands_in_map : (f : A → B) (y : B) (xs : List A) → Stands B y (map f xs) → (x : A) × Stands A x xs × (f x ≡ y)
  stands_in_map f y [] is = absurd is
  stands_in_map f y (x ∷ xs) (inl same) = (x, inl refl, same)
  stands_in_map f y (x ∷ xs) (inr rest) = let found = stands_in_map f y xs rest in (found.0, inr found.1, found.2)

  pub stands_in_filter_map : (f : A → Option B) (y : B) (xs : List A) → Stands B y (filter_map f xs) → (x : A) × Stands A x xs × (f x ≡ Some y)
  stands_in_filter_map f y [] is = absurd is
  stands_in_filter_map f y (x ∷ xs) is = by (f x) refl is (λ rest. let found = stands_in_filter_map f y xs rest in (found.0, inr found.1, found.2))
    where
      by : (v : Option B) → f x ≡ v → Stands B y (cons_option v (filter_map f xs)) → (Stands B y (filter_map f xs) → (z : A) × Stands A z (x ∷ xs) × (f z ≡ Some y))
          → (z : A) × Stands A z (x ∷ xs) × (f z ≡ Some y)
      by None e rest more = more rest
      by (Some z) e (inl same) more = (x, inl refl, e ∙ ap (λ (w : B). Some w) same)
      by (Some z) e (inr rest) more = more rest
