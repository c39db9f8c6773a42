-- Lemmas on lists of numbers, their filters, and tests.
use Rattle.std.proofs.Common.{◌≡◌, ◌∙◌, sym, ap, refl, ℕ, Bool, true, false, true≢false, ◌&&◌, ◌||◌, List, [], ◌∷◌, ◌++◌}
use Rattle.std.specs.Prelude.{filter, nat_eq}
use Rattle.std.proofs.lemmas.Bool.{eqb-true, eq-eqb}
use Rattle.std.proofs.lemmas.List.Folds.{list_any-append}
use Rattle.std.proofs.lemmas.Map.Views.{any-filter_same}
use Rattle.router_trace.specs.Connection.{has}

-- the two cases of a test
pub by_test : {P : Type 0} (b : Bool) → ((b ≡ true) → P) → ((b ≡ false) → P) → P
by_test true f g = f refl
by_test false f g = g refl

-- a filter after a filter is the filter by both
pub filter_both : (p q r : ℕ → Bool) → ((k : ℕ) → r k ≡ (p k && q k)) → (xs : List ℕ) → filter r xs ≡ filter q (filter p xs)
filter_both p q r each [] = refl
filter_both p q r each (x ∷ xs) =
    by_test (p x)
    (λ e. by_test (q x)
    (λ f. let g : r x ≡ true = each x ∙ ap (λ b. b && q x) e ∙ f in rw (g, e, f) (ap (λ ys. x ∷ ys) (filter_both p q r each xs)))
    (λ f. let g : r x ≡ false = each x ∙ ap (λ b. b && q x) e ∙ f in rw (g, e, f) (filter_both p q r each xs)))
    (λ e. let g : r x ≡ false = each x ∙ ap (λ b. b && q x) e in rw (g, e) (filter_both p q r each xs))

-- a filter that nothing passes
pub filter_none : (p : ℕ → Bool) → ((k : ℕ) → p k ≡ false) → (xs : List ℕ) → filter p xs ≡ []
filter_none p none [] = refl
filter_none p none (x ∷ xs) = rw (none x) (filter_none p none xs)

-- two filters that agree on the list's elements
pub filter_agree_in : (p q : ℕ → Bool) (xs : List ℕ) → ((k : ℕ) → has k xs ≡ true → p k ≡ q k) → filter p xs ≡ filter q xs
filter_agree_in p q [] same = refl
filter_agree_in p q (x ∷ xs) same =
    let here : p x ≡ q x = same x (rw (eq-eqb x x refl) refl)
    in let rest : filter p xs ≡ filter q xs = filter_agree_in p q xs (λ k h. same k (either_true (nat_eq x k) (has k xs) h))
    in rw (here, rest) refl
  where
    either_true : (a b : Bool) → b ≡ true → (a || b) ≡ true
    either_true true b h = refl
    either_true false b h = h

-- what a list has with one more number at its end
pub has_push : (k c : ℕ) (xs : List ℕ) → has k xs ≡ true → has k (xs ++ c ∷ []) ≡ true
has_push k c xs h = rw (list_any-append (λ y. nat_eq y k) xs (c ∷ []), h) refl

pub has_pushed : (k c : ℕ) (xs : List ℕ) → c ≡ k → has k (xs ++ c ∷ []) ≡ true
has_pushed k c xs e = rw (list_any-append (λ y. nat_eq y k) xs (c ∷ []), eq-eqb c k e) (or_true (has k xs))
  where
    or_true : (b : Bool) → (b || (true || false)) ≡ true
    or_true true = refl
    or_true false = refl

pub from_push : {P : Type 0} (k c : ℕ) (xs : List ℕ) → (has k xs ≡ true → P) → (c ≡ k → P) → has k (xs ++ c ∷ []) ≡ true → P
from_push k c xs old new h =
    by_test (has k xs) old (λ e. new (eqb-true c k (or_last (has k xs) (nat_eq c k) e (sym (list_any-append (λ y. nat_eq y k) xs (c ∷ [])) ∙ h))))
  where
    or_last : (a b : Bool) → a ≡ false → (a || (b || false)) ≡ true → b ≡ true
    or_last true b e h = absurd cc
    or_last false true e h = refl
    or_last false false e h = h

-- what is in a filtered list, for a number that passes the filter
pub has_filter : (p : ℕ → Bool) (k : ℕ) (xs : List ℕ) → p k ≡ true → has k xs ≡ true → has k (filter p xs) ≡ true
has_filter p k xs passes h =
    any-filter_same (λ y. nat_eq y k) p true (λ y e. ap p (eqb-true y k e) ∙ passes) xs ∙ h

-- one that doesn't pass the filter isn't in it
pub has_no_filter : (p : ℕ → Bool) (k : ℕ) (xs : List ℕ) → p k ≡ false → has k (filter p xs) ≡ false
has_no_filter p k [] fails = refl
has_no_filter p k (x ∷ xs) fails =
    by_test (p x)
    (λ e. rw e (neither (nat_eq x k) (has k (filter p xs)) (other x e) (has_no_filter p k xs fails)))
    (λ e. rw e (has_no_filter p k xs fails))
  where
    neither : (a b : Bool) → a ≡ false → b ≡ false → (a || b) ≡ false
    neither true b f g = absurd cc
    neither false b f g = g

    other : (x : ℕ) → p x ≡ true → nat_eq x k ≡ false
    other x e = by_test (nat_eq x k) (λ h. absurd (true≢false (sym e ∙ ap p (eqb-true x k h) ∙ fails))) (λ h. h)
