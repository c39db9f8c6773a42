-- What stood at the keys before one more change.
use Rattle.std.proofs.Common.{◌≡◌, ℕ, Bool, true, false, cond, List, [], ◌∷◌, ◌++◌, Option, Some, None, refl, ap, ◌∙◌}
use Rattle.std.specs.BTreeMap.{get, BTreeMap}
use Rattle.std.specs.Cmp.{IsTotalOrder}
use Rattle.std.specs.Map.{lookup}
use Rattle.std.specs.Ordering.{is_eq}
use Rattle.std.specs.declared.cmp.Ordering.{Ordering}
use Rattle.std.specs.declared.cmp.Ordering.TheVariants.{Less, Equal, Greater}
use Rattle.book_core.specs.declared.numbers.Earlier.{Earlier}
use Rattle.book_core.specs.Numbers.{undone, earlier, back}

pub by_test : {P : Type 0} (b : Bool) → ((b ≡ true) → P) → ((b ≡ false) → P) → P
by_test true f g = f refl
by_test false f g = g refl

pub equal : (o : Ordering) → is_eq o ≡ true → o ≡ Equal
equal Less h = absurd cc
equal Equal h = refl
equal Greater h = absurd cc

module _ {K : Type 0} (cmp : K → K → Ordering) where
  pub earlier_more : (cs : List (Earlier K)) (c : Earlier K) (f : K → Option ℕ) → earlier cmp (cs ++ c ∷ []) f ≡ earlier cmp cs (undone cmp c f)
  unfolding earlier
  earlier_more [] c f = refl
  earlier_more (d ∷ cs) c f = ap (undone cmp d) (earlier_more cs c f)

  pub earlier_none : (f : K → Option ℕ) → earlier cmp [] f ≡ f
  unfolding earlier
  earlier_none f = refl

  -- keys that compare alike have the same
  pub same_at : IsTotalOrder cmp → (m : BTreeMap K ℕ) (k q : K) → is_eq (cmp k q) ≡ true → get cmp m k ≡ get cmp m q
  same_at total m k q h = ap (λ (t : K → Bool). lookup t m.entries) (λ i z. is_eq (total.congr k q z (equal (cmp k q) h) i))

  set_at : (b : Bool) (number : ℕ) (old new now : Option ℕ) → (b ≡ true → old ≡ now) → new ≡ cond b (Some number) now → cond b (back old new) new ≡ now
  set_at true number None new now same is = same refl
  set_at true number (Some n) new now same is = rw is (same refl)
  set_at false number old new now same is = is

  logged : IsTotalOrder cmp → (cs : List (Earlier K)) (k : K) (old : Option ℕ) (number : ℕ) (m n : BTreeMap K ℕ)
      → ((q : K) → get cmp n q ≡ cond (is_eq (cmp k q)) (Some number) (get cmp m q)) → old ≡ get cmp m k
      → earlier cmp (cs ++ record { key = k; number = old } ∷ []) (get cmp n) ≡ earlier cmp cs (get cmp m)
  logged total cs k old number m n is stood =
      earlier_more cs (record { key = k; number = old }) (get cmp n)
      ∙ ap (earlier cmp cs) (λ i q. set_at (is_eq (cmp k q)) number old (get cmp n q) (get cmp m q) (λ h. stood ∙ same_at total m k q h) (is q) i)

  -- a change that is logged, with a copy of its key
  pub earlier_set : IsTotalOrder cmp → (cs : List (Earlier K)) (copy k : K) (old : Option ℕ) (number : ℕ) (m n : BTreeMap K ℕ) → copy ≡ k
      → ((q : K) → get cmp n q ≡ cond (is_eq (cmp k q)) (Some number) (get cmp m q)) → old ≡ get cmp m k
      → earlier cmp (cs ++ record { key = copy; number = old } ∷ []) (get cmp n) ≡ earlier cmp cs (get cmp m)
  earlier_set total cs copy k old number m n e is stood = rw e (logged total cs k old number m n is stood)
