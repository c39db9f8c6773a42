-- The lowest of a few numbers.
use Rattle.std.proofs.Common.{◌≡◌, ◌∙◌, sym, ap, refl, ℕ, ◌<◌, ◌≤◌, ◌+◌, ◌==◌, ◌&&◌, ◌||◌, Bool, true, false, List, length, Option, Some, None, get_or, arith}
use Rattle.std.specs.Prelude.{nat_lt}
use Rattle.state_collections.specs.Among.{is_among, IsLeast}
use Rattle.state_collections.proofs.Among.{at_all, is_other, is_same, none_so_far, one_more}

pub same_least : (p q : ℕ → Bool) → ((n : ℕ) → p n ≡ q n) → (r : Option ℕ) → IsLeast p r → IsLeast q r
same_least p q same None least = λ n. sym (same n) ∙ least n
same_least p q same (Some m) least = (sym (same m) ∙ least.0, λ n below. sym (same n) ∙ least.1 n below)

-- a number is the lowest of itself alone
pub itself : (m : ℕ) → IsLeast (λ n. m == n) (Some m)
itself m = (is_same m m refl, λ n below. is_other m n (λ same. absurd (omega (arith, below, same))))

out_of_two : (t a b : Bool) → ((t && a) || (t && b)) ≡ (t && (a || b))
out_of_two true a b = refl
out_of_two false a b = refl

-- the lowest above a number of two kinds is the lowest above it of both
pub either_above : (p q : ℕ → Bool) (k : ℕ) (r : Option ℕ) → IsLeast (λ n. (nat_lt k n && p n) || (nat_lt k n && q n)) r
    → IsLeast (λ n. nat_lt k n && (p n || q n)) r
either_above p q k r least = same_least (λ n. (nat_lt k n && p n) || (nat_lt k n && q n)) (λ n. nat_lt k n && (p n || q n)) (λ n. out_of_two (nat_lt k n) (p n) (q n)) r least

-- the lowest so far, with one number more
pub least_so_far : (place : ℕ) (few : List ℕ) (found : ℕ) (r : Option ℕ) → place < length few → found ≡ get_or few place 0
    → IsLeast (λ n. is_among place few n || found == n) r → IsLeast (λ n. is_among (place + 1) few n) r
least_so_far place few found r below is least = same_least (λ n. is_among place few n || found == n) (λ n. is_among (place + 1) few n)
    (λ n. ap (λ x. is_among place few n || x == n) is ∙ sym (one_more place few n below)) r least

-- the same of the numbers above another
pub least_above_so_far : (place : ℕ) (few : List ℕ) (k found : ℕ) (r : Option ℕ) → place < length few → found ≡ get_or few place 0
    → IsLeast (λ n. (nat_lt k n && is_among place few n) || (nat_lt k n && found == n)) r → IsLeast (λ n. nat_lt k n && is_among (place + 1) few n) r
least_above_so_far place few k found r below is least = same_least (λ n. nat_lt k n && (is_among place few n || found == n)) (λ n. nat_lt k n && is_among (place + 1) few n)
    (λ n. ap (λ b. nat_lt k n && b) (ap (λ x. is_among place few n || x == n) is ∙ sym (one_more place few n below))) r
    (either_above (λ n. is_among place few n) (λ n. found == n) k r least)

-- at no places there is none
pub none_above_so_far : (few : List ℕ) (k : ℕ) → (n : ℕ) → (nat_lt k n && is_among 0 few n) ≡ false
none_above_so_far few k n = ap (λ b. nat_lt k n && b) (none_so_far few n) ∙ and_false (nat_lt k n)
  where
    and_false : (a : Bool) → (a && false) ≡ false
    and_false true = refl
    and_false false = refl

-- where no place is left, the lowest so far is the lowest
pub least_at_all : (place count : ℕ) (few : List ℕ) (r : Option ℕ) → place ≤ count → count ≤ place → IsLeast (λ n. is_among place few n) r → IsLeast (λ n. is_among count few n) r
least_at_all place count few r within ended least = same_least (λ n. is_among place few n) (λ n. is_among count few n) (λ n. sym (at_all place count few n within ended)) r least

-- the same of the numbers above another
pub least_above_at_all : (place count : ℕ) (few : List ℕ) (k : ℕ) (r : Option ℕ) → place ≤ count → count ≤ place
    → IsLeast (λ n. nat_lt k n && is_among place few n) r → IsLeast (λ n. nat_lt k n && is_among count few n) r
least_above_at_all place count few k r within ended least = same_least (λ n. nat_lt k n && is_among place few n) (λ n. nat_lt k n && is_among count few n)
    (λ n. ap (λ b. nat_lt k n && b) (sym (at_all place count few n within ended))) r least
