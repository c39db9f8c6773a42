-- Numbers that pass a test: the first below a bound, and how many there are.
use Rattle.std.proofs.Common.{◌≡◌, ◌∙◌, ◌<◌, ◌+◌, ◌||◌, ℕ, zero, suc, Bool, true, false, refl, sym, ap, arith, List, [], ◌∷◌, length, None}
use Rattle.std.specs.Prelude.{◌==◌, if◌then◌else◌}
use Rattle.std.specs.List.{AllByRecursion}
use Rattle.std.specs.List.Sorted.{IsStrictlySortedBy}
use Rattle.std.specs.Ordering.{nat_cmp}
use Rattle.std.specs.declared.cmp.Ordering.TheVariants.{Less}
use Rattle.std.proofs.lemmas.Bool.{eqb-true}
use Rattle.std.proofs.lemmas.Bool.Decides.{nat_tests}
use Rattle.amqp_session.specs.Ranges.{has}
use Rattle.router_trace.specs.Counting.{IsCount}
use Rattle.router_trace.specs.Numbers.{first_below, count_below, or_other, if_passes}

pub not_true : (b : Bool) → (b ≡ true → ⊥) → b ≡ false
not_true true no_way = absurd (no_way refl)
not_true false no_way = refl

-- the first below a bound
pub none_below : (bound : ℕ) (passes : ℕ → Bool) → ((n : ℕ) → n < bound → passes n ≡ false) → first_below bound passes ≡ None
unfolding first_below
none_below zero passes none = refl
none_below (suc b) passes none =
    ap (λ v. or_other v (if_passes (passes b) b)) (none_below b passes (λ n l. none n (omega (arith, l)))) ∙ ap (λ t. if_passes t b) (none b (omega arith))

-- two numbers are compared either way
pub equal_back : (n m : ℕ) → (m == n) ≡ (n == m)
equal_back n m = grind (arith, nat_tests)

-- how many there are below a bound
count_same : (b : ℕ) (p q : ℕ → Bool) → ((n : ℕ) → n < b → p n ≡ q n) → count_below b p ≡ count_below b q
unfolding count_below
count_same zero p q same = refl
count_same (suc b) p q same =
    ap (λ k. k + (if p b then 1 else 0)) (count_same b p q (λ n l. same n (omega (arith, l)))) ∙ ap (λ t. count_below b q + (if t then 1 else 0)) (same b (omega arith))

count_none : (b : ℕ) → count_below b (λ n. false) ≡ 0
unfolding count_below
count_none zero = refl
count_none (suc b) = ap (λ k. k + 0) (count_none b)

-- one more number
count_more : (b x : ℕ) (p q : ℕ → Bool) → x < b → p x ≡ true → q x ≡ false → ((n : ℕ) → (n == x) ≡ false → p n ≡ q n) → count_below b p ≡ count_below b q + 1
unfolding count_below
count_more zero x p q l yes_x no_x same = absurd (omega (arith, l))
count_more (suc b) x p q l yes_x no_x same = by_test (x == b) refl (λ k. count_more b x p q k yes_x no_x same)
  where
    part : (t : Bool) → ℕ
    part t = if t then 1 else 0

    apart : (n x b : ℕ) → n < b → x ≡ b → (n == x) ≡ false
    apart n x b l is = grind (arith, nat_tests)

    turned : (x b : ℕ) → (x == b) ≡ false → (b == x) ≡ false
    turned x b e = grind (arith, nat_tests)

    less : (n b : ℕ) → n < suc b → (n == b) ≡ false → n < b
    less n b l e = grind (arith, nat_tests)

    none_more : (k : ℕ) → k + 1 ≡ (k + 0) + 1
    none_more k = omega arith

    swap : (k t : ℕ) → (k + 1) + t ≡ (k + t) + 1
    swap k t = omega arith

    by_test : (t : Bool) → (x == b) ≡ t → (x < b → count_below b p ≡ count_below b q + 1)
        → count_below b p + (if p b then 1 else 0) ≡ (count_below b q + (if q b then 1 else 0)) + 1
    by_test true e below =
        let is : x ≡ b = eqb-true x b e in
        ap (λ k. k + (if p b then 1 else 0)) (count_same b p q (λ n k. same n (apart n x b k is)))
        ∙ ap (λ t. count_below b q + (if t then 1 else 0)) (ap p (sym is) ∙ yes_x)
        ∙ none_more (count_below b q)
        ∙ ap (λ t. (count_below b q + (if t then 1 else 0)) + 1) (sym (ap q (sym is) ∙ no_x))
    by_test false e below =
        ap (λ k. k + (if p b then 1 else 0)) (below (less x b l e))
        ∙ ap (λ t. (count_below b q + 1) + (if t then 1 else 0)) (same b (turned x b e))
        ∙ swap (count_below b q) (if q b then 1 else 0)

differ : (a b : ℕ) → nat_cmp a b ≡ Less → (a == b) ≡ false
differ a b h = grind (arith, nat_tests, h)

pub not_after : (x : ℕ) (xs : List ℕ) → AllByRecursion (λ y. nat_cmp x y ≡ Less) xs → has x xs ≡ false
not_after x [] above = refl
not_after x (y ∷ ys) above = rw (differ x y above.0) (not_after x ys above.1)

same_number : (n : ℕ) → (n == n) ≡ true
same_number n = grind (arith, nat_tests)

either_true : (a b : Bool) → b ≡ true → (a || b) ≡ true
either_true true b e = refl
either_true false b e = e

length_more : (x : ℕ) (xs : List ℕ) → length xs + 1 ≡ length (x ∷ xs)
length_more x xs = omega arith

count_list : (most : ℕ) (xs : List ℕ) → IsStrictlySortedBy nat_cmp xs → ((n : ℕ) → has n xs ≡ true → n < most) → count_below most (λ n. has n xs) ≡ length xs
unfolding IsStrictlySortedBy
count_list most [] sorted low = count_none most
count_list most (x ∷ xs) sorted low =
    count_more most x (λ n. has n (x ∷ xs)) (λ n. has n xs) (low x (ap (λ t. t || has x xs) (same_number x))) (ap (λ t. t || has x xs) (same_number x)) (not_after x xs sorted.0)
    (λ n e. ap (λ t. t || has n xs) e)
    ∙ ap (λ k. k + 1) (count_list most xs sorted.1 (λ n e. low n (either_true (n == x) (has n xs) e)))
    ∙ length_more x xs

-- The count of all numbers that pass is the count below any bound on them.
pub count_is : (bound : ℕ) (passes : ℕ → Bool) → ((n : ℕ) → passes n ≡ true → n < bound) → (k : ℕ) → IsCount passes k → k ≡ count_below bound passes
count_is bound passes low k x =
    sym x.are ∙ sym (count_list bound x.numbers x.rise (λ n e. low n (sym (x.pass n) ∙ e))) ∙ count_same bound (λ n. has n x.numbers) passes (λ n l. x.pass n)
