-- Counts of the numbers that pass a test, of which one more passes or one fewer.
use Rattle.std.proofs.Common.{◌≡◌, ◌∙◌, ◌+◌, ◌-◌, ◌||◌, ℕ, suc, Bool, true, false, refl, sym, ap, subst, arith, List, [], ◌∷◌, length}
use Rattle.std.specs.Prelude.{◌==◌, nat_lt, if◌then◌else◌}
use Rattle.std.specs.List.{AllByRecursion}
use Rattle.std.specs.List.Sorted.{IsStrictlySortedBy}
use Rattle.std.specs.Ordering.{nat_cmp}
use Rattle.std.specs.declared.cmp.Ordering.TheVariants.{Less}
use Rattle.std.proofs.lemmas.Bool.{eqb-true}
use Rattle.std.proofs.lemmas.Bool.Decides.{nat_tests}
use Rattle.amqp_session.specs.Ranges.{has}
use Rattle.router_trace.specs.Counting.{IsCount}
use Rattle.router_trace.proofs.Numbers.{not_after}

pub no_rise : IsStrictlySortedBy nat_cmp []
unfolding IsStrictlySortedBy
no_rise = tt

-- the same test counts the same
pub count_same : (p q : ℕ → Bool) → ((n : ℕ) → p n ≡ q n) → (k : ℕ) → IsCount p k → IsCount q k
count_same p q same k x = record { numbers = x.numbers; rise = x.rise; pass = λ n. x.pass n ∙ same n; are = x.are }

-- a rising list with one number more
abbrev with_one : ℕ → List ℕ → List ℕ
with_one m [] = m ∷ []
with_one m (x ∷ xs) = if nat_lt m x then m ∷ x ∷ xs else (x ∷ with_one m xs)

has_with : (m n : ℕ) (xs : List ℕ) → has n (with_one m xs) ≡ (if m == n then true else has n xs)
has_with m n [] = first (n == m) (m == n) (turned n m)
  where
    turned : (a b : ℕ) → (a == b) ≡ (b == a)
    turned a b = grind (arith, nat_tests)

    first : (a b : Bool) → a ≡ b → (a || false) ≡ (if b then true else false)
    first true b e = ap (λ t. if t then true else false) e
    first false b e = ap (λ t. if t then true else false) e
has_with m n (x ∷ xs) = by_test (nat_lt m x) (has_with m n xs)
  where
    turned : (a b : ℕ) → (a == b) ≡ (b == a)
    turned a b = grind (arith, nat_tests)

    front : (a b r : Bool) → a ≡ b → (a || r) ≡ (if b then true else r)
    front true b r e = ap (λ t. if t then true else r) e
    front false b r e = ap (λ t. if t then true else r) e

    behind : (a b r s : Bool) → s ≡ (if b then true else r) → (a || s) ≡ (if b then true else (a || r))
    behind true true r s e = refl
    behind true false r s e = refl
    behind false b r s e = e

    by_test : (t : Bool) → has n (with_one m xs) ≡ (if m == n then true else has n xs)
        → has n (if t then m ∷ x ∷ xs else (x ∷ with_one m xs)) ≡ (if m == n then true else has n (x ∷ xs))
    by_test true rest = front (n == m) (m == n) (has n (x ∷ xs)) (turned n m)
    by_test false rest = behind (n == x) (m == n) (has n xs) (has n (with_one m xs)) rest

length_with : (m : ℕ) (xs : List ℕ) → length (with_one m xs) ≡ length xs + 1
length_with m [] = refl
length_with m (x ∷ xs) = by_test (nat_lt m x) (length_with m xs)
  where
    more : (n k : ℕ) → n ≡ k + 1 → suc n ≡ suc k + 1
    more n k e = omega (arith, e)

    last : (k : ℕ) → suc (suc k) ≡ suc k + 1
    last k = omega arith

    by_test : (t : Bool) → length (with_one m xs) ≡ length xs + 1 → length (if t then m ∷ x ∷ xs else (x ∷ with_one m xs)) ≡ length (x ∷ xs) + 1
    by_test true rest = last (length xs)
    by_test false rest = more (length (with_one m xs)) (length xs) rest

above_with : (y m : ℕ) (xs : List ℕ) → nat_cmp y m ≡ Less → AllByRecursion (λ z. nat_cmp y z ≡ Less) xs → AllByRecursion (λ z. nat_cmp y z ≡ Less) (with_one m xs)
above_with y m [] less above = (less, tt)
above_with y m (x ∷ xs) less above = by_test (nat_lt m x) (above_with y m xs less above.1)
  where
    by_test : (t : Bool) → AllByRecursion (λ z. nat_cmp y z ≡ Less) (with_one m xs) → AllByRecursion (λ z. nat_cmp y z ≡ Less) (if t then m ∷ x ∷ xs else (x ∷ with_one m xs))
    by_test true rest = (less, above)
    by_test false rest = (above.0, rest)

above_more : (m x : ℕ) (xs : List ℕ) → nat_cmp m x ≡ Less → AllByRecursion (λ z. nat_cmp x z ≡ Less) xs → AllByRecursion (λ z. nat_cmp m z ≡ Less) xs
above_more m x [] less above = tt
above_more m x (y ∷ ys) less above = (through m x y less above.0, above_more m x ys less above.1)
  where
    through : (m x y : ℕ) → nat_cmp m x ≡ Less → nat_cmp x y ≡ Less → nat_cmp m y ≡ Less
    through m x y a b = grind (arith, nat_tests, a, b)

rise_with : (m : ℕ) (xs : List ℕ) → IsStrictlySortedBy nat_cmp xs → has m xs ≡ false → IsStrictlySortedBy nat_cmp (with_one m xs)
unfolding IsStrictlySortedBy
rise_with m [] rise new = (tt, tt)
rise_with m (x ∷ xs) rise new = by_test (nat_lt m x) refl (rise_with m xs rise.1)
  where
    below : nat_lt m x ≡ true → nat_cmp m x ≡ Less
    below e = grind (arith, nat_tests, e)

    beyond : (m x : ℕ) (r : Bool) → nat_lt m x ≡ false → ((m == x) || r) ≡ false → (nat_cmp x m ≡ Less) × (r ≡ false)
    beyond m x true e f = absurd (wrong (m == x) f)
      where
        wrong : (b : Bool) → (b || true) ≡ false → ⊥
        wrong true g = absurd cc
        wrong false g = absurd cc
    beyond m x false e f = (grind (arith, nat_tests, e, f), refl)

    by_test : (t : Bool) → nat_lt m x ≡ t → (has m xs ≡ false → IsStrictlySortedBy nat_cmp (with_one m xs)) → IsStrictlySortedBy nat_cmp (if t then m ∷ x ∷ xs else (x ∷ with_one m xs))
    by_test true e rest = ((below e, above_more m x xs (below e) rise.0), rise)
    by_test false e rest = let is = beyond m x (has m xs) e new in (above_with x m xs is.0 rise.0, rest is.1)

-- ... and with one number less
abbrev without : ℕ → List ℕ → List ℕ
without m [] = []
without m (x ∷ xs) = if m == x then xs else (x ∷ without m xs)

has_without : (m n : ℕ) (xs : List ℕ) → IsStrictlySortedBy nat_cmp xs → has n (without m xs) ≡ (if m == n then false else has n xs)
unfolding IsStrictlySortedBy
has_without m n [] rise = either (m == n)
  where
    either : (b : Bool) → false ≡ (if b then false else false)
    either true = refl
    either false = refl
has_without m n (x ∷ xs) rise = by_test (m == x) refl (has_without m n xs rise.1)
  where
    turned : (a b : ℕ) → (a == b) ≡ (b == a)
    turned a b = grind (arith, nat_tests)

    other : (m n x : ℕ) → (m == x) ≡ false → (m == n) ≡ true → (n == x) ≡ false
    other m n x e f = grind (arith, nat_tests, e, f)

    here : (b : Bool) → (m == n) ≡ b → m ≡ x → has n xs ≡ (if b then false else has n (x ∷ xs))
    here true e is = not_after n xs (subst (λ y. AllByRecursion (λ z. nat_cmp y z ≡ Less) xs) (sym is ∙ eqb-true m n e) rise.0)
    here false e is = sym (ap (λ t. t || has n xs) (turned n x ∙ ap (λ y. y == n) (sym is) ∙ e))

    rest : (b : Bool) → (m == n) ≡ b → (m == x) ≡ false → ((n == x) || (if m == n then false else has n xs)) ≡ (if b then false else has n (x ∷ xs))
    rest true e f = ap (λ t. t || (if m == n then false else has n xs)) (other m n x f e) ∙ ap (λ t. if t then false else has n xs) e
    rest false e f = ap (λ t. (n == x) || (if t then false else has n xs)) e

    by_test : (t : Bool) → (m == x) ≡ t → has n (without m xs) ≡ (if m == n then false else has n xs) → has n (if t then xs else (x ∷ without m xs)) ≡ (if m == n then false else has n (x ∷ xs))
    by_test true e same = here (m == n) refl (eqb-true m x e)
    by_test false e same = ap (λ t. (n == x) || t) same ∙ rest (m == n) refl e

length_without : (m : ℕ) (xs : List ℕ) → has m xs ≡ true → length (without m xs) ≡ length xs - 1
length_without m [] there = absurd cc
length_without m (x ∷ xs) there = by_test (m == x) refl (length_without m xs)
  where
    less : (k : ℕ) → k ≡ suc k - 1
    less k = omega arith

    fewer : (n : ℕ) (ys : List ℕ) → has m ys ≡ true → n ≡ length ys - 1 → suc n ≡ suc (length ys) - 1
    fewer n [] there e = absurd cc
    fewer n (y ∷ ys) there e = omega (arith, e)

    by_test : (t : Bool) → (m == x) ≡ t → (has m xs ≡ true → length (without m xs) ≡ length xs - 1) → length (if t then xs else (x ∷ without m xs)) ≡ length (x ∷ xs) - 1
    by_test true e rest = less (length xs)
    by_test false e rest =
        let inside : has m xs ≡ true = sym (ap (λ t. t || has m xs) e) ∙ there in
        fewer (length (without m xs)) xs inside (rest inside)

above_without : (y m : ℕ) (xs : List ℕ) → AllByRecursion (λ z. nat_cmp y z ≡ Less) xs → AllByRecursion (λ z. nat_cmp y z ≡ Less) (without m xs)
above_without y m [] above = tt
above_without y m (x ∷ xs) above = by_test (m == x) (above_without y m xs above.1)
  where
    by_test : (t : Bool) → AllByRecursion (λ z. nat_cmp y z ≡ Less) (without m xs) → AllByRecursion (λ z. nat_cmp y z ≡ Less) (if t then xs else (x ∷ without m xs))
    by_test true rest = above.1
    by_test false rest = (above.0, rest)

rise_without : (m : ℕ) (xs : List ℕ) → IsStrictlySortedBy nat_cmp xs → IsStrictlySortedBy nat_cmp (without m xs)
unfolding IsStrictlySortedBy
rise_without m [] rise = tt
rise_without m (x ∷ xs) rise = by_test (m == x) (rise_without m xs rise.1)
  where
    by_test : (t : Bool) → IsStrictlySortedBy nat_cmp (without m xs) → IsStrictlySortedBy nat_cmp (if t then xs else (x ∷ without m xs))
    by_test true rest = rise.1
    by_test false rest = (above_without x m xs rise.0, rest)

-- so a count follows
pub count_with : (p : ℕ → Bool) (m k : ℕ) (b : Bool) → p m ≡ false → IsCount p k → IsCount (λ n. if m == n then b else p n) (if b then k + 1 else k)
count_with p m k true new x = record {
  numbers = with_one m x.numbers;
  rise = rise_with m x.numbers x.rise (x.pass m ∙ new);
  pass = λ n. has_with m n x.numbers ∙ ap (λ t. if m == n then true else t) (x.pass n);
  are = length_with m x.numbers ∙ ap (λ k. k + 1) x.are;
}
count_with p m k false new x = count_same p (λ n. if m == n then false else p n) (λ n. by_test n (m == n) refl) k x
  where
    by_test : (n : ℕ) (t : Bool) → (m == n) ≡ t → p n ≡ (if t then false else p n)
    by_test n true e = ap p (sym (eqb-true m n e)) ∙ new
    by_test n false e = refl

pub count_without : (p : ℕ → Bool) (m k : ℕ) (b : Bool) → p m ≡ b → IsCount p k → IsCount (λ n. if m == n then false else p n) (if b then k - 1 else k)
count_without p m k true there x = record {
  numbers = without m x.numbers;
  rise = rise_without m x.numbers x.rise;
  pass = λ n. has_without m n x.numbers x.rise ∙ ap (λ t. if m == n then false else t) (x.pass n);
  are = length_without m x.numbers (x.pass m ∙ there) ∙ ap (λ k. k - 1) x.are;
}
count_without p m k false there x = count_with p m k false there x
