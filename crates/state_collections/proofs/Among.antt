-- Numbers among the first of a few places.
use Rattle.std.proofs.Common.{◌≡◌, ◌≢◌, ◌∙◌, ◌⊎◌, inl, inr, sym, ap, refl, ℕ, zero, suc, ◌<◌, ◌≤◌, ◌+◌, ◌==◌, ◌&&◌, ◌||◌, not, Bool, true, false, List, [], ◌∷◌, length, get_or, set, arith}
use Rattle.std.proofs.lemmas.Bool.Decides.{eqb_tells}
use Rattle.state_collections.specs.Among.{is_among}

or_swap : (a b c : Bool) → (b || (a || c)) ≡ (a || (b || c))
or_swap true true c = refl
or_swap true false c = refl
or_swap false b c = refl

or_other : (a b : Bool) → (a || b) ≡ (b || a)
or_other true true = refl
or_other true false = refl
or_other false true = refl
or_other false false = refl

or_joined : (a b c : Bool) → (a || (b || c)) ≡ ((a || b) || c)
or_joined true b c = refl
or_joined false b c = refl

-- tests of two numbers
pub is_same : (a b : ℕ) → a ≡ b → (a == b) ≡ true
is_same a b same = by_test (eqb_tells a b)
  where
    by_test : (((a == b) ≡ true) × (a ≡ b)) ⊎ (((a == b) ≡ false) × (a ≢ b)) → (a == b) ≡ true
    by_test (inl (e, _)) = e
    by_test (inr (e, other)) = absurd (other same)

pub is_other : (a b : ℕ) → a ≢ b → (a == b) ≡ false
is_other a b other = by_test (eqb_tells a b)
  where
    by_test : (((a == b) ≡ true) × (a ≡ b)) ⊎ (((a == b) ≡ false) × (a ≢ b)) → (a == b) ≡ false
    by_test (inl (e, same)) = absurd (other same)
    by_test (inr (e, _)) = e

one_after : (n : ℕ) → n + 1 ≡ suc n
one_after n = omega arith

-- no number is among no places
pub none_so_far : (few : List ℕ) (n : ℕ) → is_among 0 few n ≡ false
unfolding is_among
none_so_far few n = refl

next : (place : ℕ) (few : List ℕ) (n : ℕ) → place < length few → is_among (suc place) few n ≡ (is_among place few n || get_or few place 0 == n)
unfolding is_among
next place [] n below = absurd (omega (arith, below))
next zero (x ∷ few) n below = or_other (x == n) false
next (suc place) (x ∷ few) n below =
    ap (λ b. x == n || b) (next place few n (omega (arith, below))) ∙ or_joined (x == n) (is_among place few n) (get_or few place 0 == n)

-- a place more has one number more
pub one_more : (place : ℕ) (few : List ℕ) (n : ℕ) → place < length few → is_among (place + 1) few n ≡ (is_among place few n || get_or few place 0 == n)
one_more place few n below = ap (λ places. is_among places few n) (one_after place) ∙ next place few n below

-- a place that hasn't the number adds nothing
pub not_there : (place : ℕ) (few : List ℕ) (n : ℕ) → place < length few → is_among place few n ≡ false → get_or few place 0 ≢ n → is_among (place + 1) few n ≡ false
not_there place few n below before here = one_more place few n below ∙ rw (before, is_other (get_or few place 0) n here) refl

-- a number is among the places where it stands
pub found : (count place : ℕ) (few : List ℕ) (n : ℕ) → place < count → place < length few → get_or few place 0 ≡ n → is_among count few n ≡ true
unfolding is_among
found count place [] n within below is = absurd (omega (arith, below))
found zero place (x ∷ few) n within below is = absurd (omega (arith, within))
found (suc count) zero (x ∷ few) n within below is = rw (is_same x n is) refl
found (suc count) (suc place) (x ∷ few) n within below is = ap (λ b. x == n || b) (found count place few n (omega (arith, within)) (omega (arith, below)) is) ∙ or_other (x == n) true

put_next : (count : ℕ) (few : List ℕ) (k n : ℕ) → count < length few → is_among (suc count) (set few count k) n ≡ (k == n || is_among count few n)
unfolding is_among
put_next count [] k n below = absurd (omega (arith, below))
put_next zero (x ∷ few) k n below = refl
put_next (suc count) (x ∷ few) k n below = ap (λ b. x == n || b) (put_next count few k n (omega (arith, below))) ∙ or_swap (k == n) (x == n) (is_among count few n)

-- a number is put after the others
pub placed : (count : ℕ) (few : List ℕ) (k n : ℕ) → count < length few → is_among (count + 1) (set few count k) n ≡ (k == n || is_among count few n)
placed count few k n below = ap (λ places. is_among places (set few count k) n) (one_after count) ∙ put_next count few k n below

-- what is put at a place changes none before it
pub before_it : (count place : ℕ) (few : List ℕ) (x n : ℕ) → count ≤ place → is_among count (set few place x) n ≡ is_among count few n
unfolding is_among
before_it zero place few x n within = refl
before_it (suc count) place [] x n within = refl
before_it (suc count) zero (y ∷ few) x n within = absurd (omega (arith, within))
before_it (suc count) (suc place) (y ∷ few) x n within = ap (λ b. y == n || b) (before_it count place few x n (omega (arith, within)))

moved : (last place : ℕ) (few : List ℕ) (n : ℕ) → place ≤ last → last < length few → (get_or few place 0 == n) ≡ false
    → is_among last (set few place (get_or few last 0)) n ≡ is_among (suc last) few n
unfolding is_among
moved last place [] n within below other = absurd (omega (arith, below))
moved zero zero (x ∷ few) n within below other = rw other refl
moved zero (suc place) (x ∷ few) n within below other = absurd (omega (arith, within))
moved (suc last) zero (x ∷ few) n within below other = or_other (get_or few last 0 == n) (is_among last few n) ∙ sym (next last few n (omega (arith, below)))
    ∙ sym (ap (λ b. b || is_among (suc last) few n) other)
moved (suc last) (suc place) (x ∷ few) n within below other = ap (λ b. x == n || b) (moved last place few n (omega (arith, within)) (omega (arith, below)) other)

-- where the last number closes a gap, all but the one that stood there stay
pub closed : (last place : ℕ) (few : List ℕ) (n : ℕ) → place ≤ last → last < length few → (get_or few place 0 == n) ≡ false
    → is_among last (set few place (get_or few last 0)) n ≡ is_among (last + 1) few n
closed last place few n within below other = moved last place few n within below other ∙ sym (ap (λ places. is_among places few n) (one_after last))

-- the same as a call tells it
pub closed_at : (place last count : ℕ) (few new : List ℕ) (k n : ℕ) → place < count → count ≤ length few → last + 1 ≡ count
    → new ≡ set few place (get_or few last 0) → get_or few place 0 ≡ k → (k == n) ≡ false → is_among last new n ≡ is_among count few n
closed_at place last count few new k n within fits less are is other =
    ap (λ places. is_among last places n) are
    ∙ closed last place few n (omega (arith, within, less)) (omega (arith, fits, less)) (ap (λ m. m == n) is ∙ other)
    ∙ ap (λ places. is_among places few n) less

-- where no place is left, all were looked at
pub at_all : (place count : ℕ) (few : List ℕ) (n : ℕ) → place ≤ count → count ≤ place → is_among count few n ≡ is_among place few n
at_all place count few n within ended = ap (λ places. is_among places few n) (omega (arith, within, ended))

-- a number that is nowhere now, where the others stay, was taken away
pub taken : (k n : ℕ) (new old : ℕ → Bool) → new k ≡ false → ((k == n) ≡ false → new n ≡ old n) → new n ≡ (not (k == n) && old n)
taken k n new old gone others = by_number (eqb_tells k n)
  where
    by_number : (((k == n) ≡ true) × (k ≡ n)) ⊎ (((k == n) ≡ false) × (k ≢ n)) → new n ≡ (not (k == n) && old n)
    by_number (inl (e, same)) = rw e (ap new (sym same) ∙ gone)
    by_number (inr (e, other)) = rw e (others e)
