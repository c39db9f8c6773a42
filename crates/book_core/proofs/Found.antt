-- A value that is looked up by a test, where the number that it must have is known.
use Rattle.std.proofs.Common.{◌≡◌, ℕ, ◌<◌, ◌≤◌, Bool, true, false, cond, ◌||◌, List, [], ◌∷◌, Option, Some, None, refl, arith, Bor}
use Rattle.std.specs.Prelude.{find, ◌==◌, is_some}
use Rattle.std.specs.List.{list_any, AllByRecursion}
use Rattle.std.specs.Option.{option_copied}
use Rattle.std.proofs.lemmas.Bool.Decides.{nat_tests}
use Rattle.book_core.specs.Rising.{Rises, AllAbove}
use Rattle.book_core.proofs.Changes.{by_test}

pub number_of : (a n : ℕ) → (a == n) ≡ true → a ≡ n
number_of a n h = grind (arith, nat_tests)

pub not_number : (a n : ℕ) → (a == n) ≡ false → a ≡ n → ⊥
not_number a n h e = grind (arith, nat_tests)

pub none_of : (a b : Bool) → (a || b) ≡ false → a ≡ false
none_of false b h = refl
none_of true b h = absurd cc

pub none_behind : (a b : Bool) → (a || b) ≡ false → b ≡ false
none_behind false b h = h
none_behind true b h = absurd cc

module _ {V : Type 0} where
  -- the value, where it passes
  abbrev pub passing : (V → Bool) → Option V → Option V
  passing p None = None
  passing p (Some v) = cond (p v) (Some v) None

  pub passes : (p : V → Bool) (v : V) → p v ≡ true → passing p (Some v) ≡ Some v
  passes p v h = rw h refl

  pub fails : (p : V → Bool) (v : V) → p v ≡ false → passing p (Some v) ≡ None
  fails p v h = rw h refl

  pub any_found : (p : V → Bool) (vs : List V) → list_any p vs ≡ is_some (find p vs)
  any_found p [] = refl
  any_found p (v ∷ vs) = by_bool (p v) (any_found p vs)
    where
      by_bool : (b : Bool) → list_any p vs ≡ is_some (find p vs) → (b || list_any p vs) ≡ is_some (cond b (Some v) (find p vs))
      by_bool true rest = refl
      by_bool false rest = rest

  pub is_copied : (o : Option (Bor V)) → is_some (option_copied o) ≡ is_some o
  is_copied None = refl
  is_copied (Some v) = refl

module _ {V : Type 0} (number : V → ℕ) (p : V → Bool) (n : ℕ) where
  -- each that passes has the number n
  abbrev pub AllHaveIt : List V → Type 0
  AllHaveIt = AllByRecursion (λ v. p v ≡ true → (number v == n) ≡ true)

  behind : (m : ℕ) (vs : List V) → n ≤ m → AllAbove number m vs → AllHaveIt vs → find p vs ≡ None
  behind m [] le above all = refl
  behind m (v ∷ vs) le above all =
      by_test (p v)
      (λ t. let e = number_of (number v) n (all.0 t) in let higher : m < number v = above.0 in absurd (omega (arith, e, le, higher)))
      (λ t. rw t (behind m vs le above.1 all.1))

  -- the first that passes is the one of this number, if that passes
  pub found_by : (vs : List V) → Rises number vs → AllHaveIt vs → find p vs ≡ passing p (find (λ v. number v == n) vs)
  found_by [] up all = refl
  found_by (v ∷ vs) up all =
      by_test (p v)
      (λ t. rw (all.0 t, t) refl)
      (λ t. by_test (number v == n)
      (λ e. let same = number_of (number v) n e in rw (e, t) (behind (number v) vs (omega (arith, same)) up.0 all.1))
      (λ e. rw (e, t) (found_by vs up.1 all.1)))
