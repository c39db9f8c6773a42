-- Rising numbers, and lists in which no number occurs twice.
use Rattle.std.proofs.Common.{◌≡◌, ◌∙◌, sym, refl, subst, true≢false, ℕ, Bool, true, false, not, ◌||◌, ◌<◌, ◌≤◌, List, [], ◌∷◌, ◌++◌, arith}
use Rattle.std.specs.Prelude.{nat_eq, filter, Option, Some, None}
use Rattle.std.proofs.lemmas.Bool.{eqb-true, eq-eqb, ltb-true, leb-true}
use Rattle.router_trace.specs.Connection.{has}
use Rattle.router_trace.specs.Refusing.{reaches, rises}
use Rattle.state_connections.proofs.Lists.{by_test, from_push}

-- a number that rises didn't come up before
pub rises_apart : (c : ℕ) (last : Option ℕ) → rises c last ≡ true → reaches c last ≡ true → ⊥
rises_apart c None up at = true≢false (sym at)
rises_apart c (Some l) up at = below c l (ltb-true l c up) (leb-true c l at)
  where
    below : (c l : ℕ) → l < c → c ≤ l → ⊥
    below c l h i = omega arith

pub taken_up : (b : Bool) → not b ≡ false → b ≡ true
taken_up true h = refl
taken_up false h = sym h

pub neither : (a b : Bool) → (a || b) ≡ false → (a ≡ false) × (b ≡ false)
neither true b h = absurd cc
neither false b h = (refl, h)

-- what passes a filter passes the test and was in the list
pub filter_has : (p : ℕ → Bool) (k : ℕ) (xs : List ℕ) → has k (filter p xs) ≡ true → (p k ≡ true) × (has k xs ≡ true)
filter_has p k [] h = absurd cc
filter_has p k (x ∷ xs) h =
    by_test (nat_eq x k)
    (λ e. by_test (p x)
    (λ f. (subst (λ (n : ℕ). p n ≡ true) (eqb-true x k e) f, rw e refl))
    (λ f. let rest = filter_has p k xs (rw f at h) in (rest.0, rw e refl)))
    (λ e. by_test (p x)
    (λ f. let rest = filter_has p k xs (let g = rw f at h in rw e at g) in (rest.0, rw e rest.1))
    (λ f. let rest = filter_has p k xs (rw f at h) in (rest.0, rw e rest.1)))

-- lists in which no number occurs twice
abbrev pub NoTwice : List ℕ → Type 0
NoTwice [] = Unit {0}
NoTwice (x ∷ xs) = (has x xs ≡ false) × NoTwice xs

has_less : (p : ℕ → Bool) (k : ℕ) (xs : List ℕ) → has k xs ≡ false → has k (filter p xs) ≡ false
has_less p k xs absent = by_test (has k (filter p xs)) (λ h. absurd (true≢false (sym (filter_has p k xs h).1 ∙ absent))) (λ h. h)

pub no_twice_filter : (p : ℕ → Bool) (xs : List ℕ) → NoTwice xs → NoTwice (filter p xs)
no_twice_filter p [] once = tt
no_twice_filter p (x ∷ xs) once =
    by_test (p x) (λ e. rw e (has_less p x xs once.0, no_twice_filter p xs once.1)) (λ e. rw e (no_twice_filter p xs once.1))

pub no_twice_push : (xs : List ℕ) (c : ℕ) → NoTwice xs → has c xs ≡ false → NoTwice (xs ++ c ∷ [])
no_twice_push [] c once absent = (refl, tt)
no_twice_push (x ∷ xs) c once absent =
    let both = neither (nat_eq x c) (has c xs) absent
    in (by_test (has x (xs ++ c ∷ [])) (λ h. absurd (true≢false (from_push x c xs (λ was. sym was ∙ once.0) (λ e. sym (eq-eqb x c (sym e)) ∙ both.0) h))) (λ h. h), no_twice_push xs c once.1 both.1)
  where
    neither : (a b : Bool) → (a || b) ≡ false → (a ≡ false) × (b ≡ false)
    neither true b h = absurd cc
    neither false b h = (refl, h)

-- what is in a list
pub has_first : (c : ℕ) (cs : List ℕ) → has c (c ∷ cs) ≡ true
has_first c cs = rw (eq-eqb c c refl) refl

pub has_rest : (k c : ℕ) (cs : List ℕ) → has k cs ≡ true → has k (c ∷ cs) ≡ true
has_rest k c cs h = either_true (nat_eq c k) (has k cs) h
  where
    either_true : (a b : Bool) → b ≡ true → (a || b) ≡ true
    either_true true b h = refl
    either_true false b h = h
