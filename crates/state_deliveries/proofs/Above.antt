-- The first number of a link, and the links that have any, found among entries in their order.
use Rattle.std.proofs.Common.{◌≡◌, ◌∙◌, ◌<◌, ◌≤◌, ◌^◌, ℕ, Bool, true, false, refl, sym, ap, subst, arith, Option, Some, None}
use Rattle.std.specs.Prelude.{◌&&◌, ◌||◌, ◌==◌, not, nat_lt, if◌then◌else◌}
use Rattle.std.specs.Ordering.{is_gt}
use Rattle.std.specs.declared.ops.Bound.{Bound}
use Rattle.std.specs.declared.ops.Bound.TheVariants.{Included, Excluded}
use Rattle.std.specs.BTreeMap.Range.{IsFromStart}
use Rattle.std.proofs.lemmas.Bool.{eqb-true}
use Rattle.std.proofs.lemmas.Bool.Decides.{nat_tests}
use Rattle.router_trace.specs.declared.binding.Rank.{Rank}
use Rattle.state_deliveries.specs.declared.by_rank.ByRank.{ByRank}
use Rattle.state_deliveries.specs.declared.by_rank.Turn.{Turn}
use Rattle.state_deliveries.specs.Finding.{is_above, is_behind}
use Rattle.state_deliveries.specs.Placing.{Key, key_cmp}
use Rattle.state_deliveries.specs.Ranking.{entry, has_entry, in_group, IsFirstEntry, IsFirstIn, IsFirstGroup, is_turn, number_on, after_link}
use Rattle.router_trace.proofs.Numbers.{not_true}
use Rattle.state_deliveries.proofs.Entries.{gt_is, less_if, before_if}

-- what the order of two entries says of their parts
lower_number : (a b c d x y z w : ℕ)
    → (((nat_lt x a || ((a == x) && nat_lt y b)) || (((a == x) && (b == y)) && nat_lt z c)) || ((((a == x) && (b == y)) && (c == z)) && nat_lt w d)) ≡ false
    → a ≤ x
lower_number a b c d x y z w e = grind (arith, nat_tests)

lower : (p q : Key) → is_gt (key_cmp p q) ≡ false → p.0 ≤ q.0
lower p q e = lower_number p.0 p.1 p.2 p.3 q.0 q.1 q.2 q.3 (sym (gt_is p q) ∙ e)

before_number : (a b c d x y z w : ℕ)
    → (((nat_lt a x || ((a == x) && nat_lt b y)) || (((a == x) && (b == y)) && nat_lt c z)) || ((((a == x) && (b == y)) && (c == z)) && nat_lt d w)) ≡ true
    → a ≤ x
before_number a b c d x y z w e = grind (arith, nat_tests)

-- on one link they say what ranks and numbers do
behind_number : (k a b c d x y z w : ℕ) → a ≡ x
    → (((nat_lt x a || ((a == x) && nat_lt y b)) || (((a == x) && (b == y)) && nat_lt z c)) || ((((a == x) && (b == y)) && (c == z)) && nat_lt w d)) ≡ false
    → ((nat_lt y b || ((y == b) && nat_lt z c)) || (not (nat_lt b y || ((b == y) && nat_lt c z)) && nat_lt w d)) ≡ false
behind_number k a b c d x y z w same e = grind (arith, nat_tests)

not_behind : (p : Key) (k : ℕ) (q : Rank) (m : ℕ) → p.0 ≡ k → is_gt (key_cmp p (entry k q m)) ≡ false → is_behind q m (record { row = p.1; counter = p.2 }) p.3 ≡ false
not_behind p k q m same e = behind_number k p.0 p.1 p.2 p.3 k q.row q.counter m same (sym (gt_is p (entry k q m)) ∙ e)

from_start_number : (k b c d : ℕ)
    → (((nat_lt k k || ((k == k) && nat_lt b 0)) || (((k == k) && (0 == b)) && nat_lt c 0)) || ((((k == k) && (0 == b)) && (0 == c)) && nat_lt d 0)) ≡ false
from_start_number k b c d = grind (arith, nat_tests)

from_start : (k : ℕ) (r : Rank) (n : ℕ) → is_gt (key_cmp (k, 0, 0, 0) (entry k r n)) ≡ false
from_start k r n = gt_is (k, 0, 0, 0) (entry k r n) ∙ from_start_number k r.row r.counter n

behind_entry : (k b c d y z w : ℕ)
    → ((nat_lt b y || ((b == y) && nat_lt c z)) || (not (nat_lt y b || ((y == b) && nat_lt z c)) && nat_lt d w)) ≡ true
    → (((nat_lt k k || ((k == k) && nat_lt b y)) || (((k == k) && (b == y)) && nat_lt c z)) || ((((k == k) && (b == y)) && (c == z)) && nat_lt d w)) ≡ true
behind_entry k b c d y z w e = grind (arith, nat_tests)

entry_behind : (k b c d y z w : ℕ)
    → (((nat_lt k k || ((k == k) && nat_lt b y)) || (((k == k) && (b == y)) && nat_lt c z)) || ((((k == k) && (b == y)) && (c == z)) && nat_lt d w)) ≡ true
    → ((nat_lt b y || ((b == y) && nat_lt c z)) || (not (nat_lt y b || ((y == b) && nat_lt z c)) && nat_lt d w)) ≡ true
entry_behind k b c d y z w e = grind (arith, nat_tests)

both_first : (a b : Bool) → (a && b) ≡ true → a ≡ true
both_first true b e = refl
both_first false b e = e

both_second : (a b : Bool) → (a && b) ≡ true → b ≡ true
both_second true b e = e
both_second false b e = absurd cc

both : (a b : Bool) → a ≡ true → b ≡ true → (a && b) ≡ true
both a b x y = rw (x, y) refl

-- the first entry from a bound on, if it is of the link, has the first of the link's numbers that are from there on
number_found : (g : ByRank) (k : ℕ) (low : Bound Key) (passes : Rank → ℕ → Bool)
    → ((r : Rank) (n : ℕ) → passes r n ≡ true → IsFromStart key_cmp low (entry k r n)) → ((r : Rank) (n : ℕ) → IsFromStart key_cmp low (entry k r n) → passes r n ≡ true)
    → ((p : Key) → IsFromStart key_cmp low p → k ≤ p.0)
    → (found : Option Key) → IsFirstEntry (has_entry g) low found → IsFirstIn (λ r n. passes r n && in_group g k r n) (number_on k found)
number_found g k low passes is_from from_is behind None x = λ r n. not_true (passes r n && in_group g k r n)
    (λ e.
    let wrong : true ≡ false = sym (both_second (passes r n) (in_group g k r n) e) ∙ x (entry k r n) (is_from r n (both_first (passes r n) (in_group g k r n) e)) in
    absurd cc)
number_found g k low passes is_from from_is behind (Some p) x = by_test (p.0 == k) refl
  where
    least : (r : Rank) (n : ℕ) → (passes r n && in_group g k r n) ≡ true → is_gt (key_cmp p (entry k r n)) ≡ false
    least r n e = x.2 (entry k r n) (is_from r n (both_first (passes r n) (in_group g k r n) e)) (both_second (passes r n) (in_group g k r n) e)

    differs : (a b : ℕ) → (a == b) ≡ false → a ≤ b → b ≤ a → ⊥
    differs a b e l m = grind (arith, nat_tests, e)

    rank : Rank
    rank = record { row = p.1; counter = p.2 }

    here : p.0 ≡ k → IsFirstIn (λ r n. passes r n && in_group g k r n) (Some p.3)
    here same = (
      rank,
      both (passes rank p.3) (in_group g k rank p.3) (from_is rank p.3 (subst (λ (j : ℕ). IsFromStart key_cmp low (j, p.1, p.2, p.3)) same x.0))
          (ap (λ (j : ℕ). has_entry g (j, p.1, p.2, p.3)) (sym same) ∙ x.1),
      λ q m e. not_behind p k q m same (least q m e),
    )

    by_test : (b : Bool) → (p.0 == k) ≡ b → IsFirstIn (λ r n. passes r n && in_group g k r n) (if b then Some p.3 else None)
    by_test true f = here (eqb-true p.0 k f)
    by_test false f = λ r n. not_true (passes r n && in_group g k r n) (λ e. differs p.0 k f (lower p (entry k r n) (least r n e)) (behind p x.0))

pub first_found : (g : ByRank) (k : ℕ) (found : Option Key) → IsFirstEntry (has_entry g) (Included (k, 0, 0, 0)) found → IsFirstIn (in_group g k) (number_on k found)
first_found g k found x = number_found g k (Included (k, 0, 0, 0)) (λ r n. true) (λ r n e. from_start k r n) (λ r n e. refl) (λ p e. lower (k, 0, 0, 0) p e) found x

pub next_found : (g : ByRank) (k : ℕ) (q : Rank) (m : ℕ) (found : Option Key) → IsFirstEntry (has_entry g) (Excluded (entry k q m)) found
    → IsFirstIn (λ r n. is_behind q m r n && in_group g k r n) (number_on k found)
next_found g k q m found x =
    number_found g k (Excluded (entry k q m)) (λ r n. is_behind q m r n)
    (λ r n e. less_if (entry k q m) (entry k r n) (behind_entry k q.row q.counter m r.row r.counter n e))
    (λ r n e. entry_behind k q.row q.counter m r.row r.counter n (before_if (entry k q m) (entry k r n) e))
    (λ p e. before_number k q.row q.counter m p.0 p.1 p.2 p.3 (before_if (entry k q m) p e)) found x

-- entries of the links above another
abbrev last : ℕ → Key
last k = (k, 18446744073709551615, 18446744073709551615, 18446744073709551615)

beyond_number : (k j b c d : ℕ) → nat_lt k j ≡ true
    → (((nat_lt k j || ((k == j) && nat_lt 18446744073709551615 b)) || (((k == j) && (18446744073709551615 == b)) && nat_lt 18446744073709551615 c))
    || ((((k == j) && (18446744073709551615 == b)) && (18446744073709551615 == c)) && nat_lt 18446744073709551615 d)) ≡ true
beyond_number k j b c d e = rw e refl

from_above : (link : Option ℕ) (j : ℕ) (r : Rank) (n : ℕ) → is_above link j ≡ true → IsFromStart key_cmp (after_link link) (entry j r n)
from_above None j r n a = tt
from_above (Some k) j r n a = less_if (last k) (entry j r n) (beyond_number k j r.row r.counter n a)

-- their parts have 64 bits
pub record IsShort (p : Key) : Type 0 where
  pub row : p.1 < 2 ^ 64
  pub counter : p.2 < 2 ^ 64
  pub number : p.3 < 2 ^ 64

above_number : (k j b c d : ℕ) → b < 2 ^ 64 → c < 2 ^ 64 → d < 2 ^ 64
    → (((nat_lt k j || ((k == j) && nat_lt 18446744073709551615 b)) || (((k == j) && (18446744073709551615 == b)) && nat_lt 18446744073709551615 c))
    || ((((k == j) && (18446744073709551615 == b)) && (18446744073709551615 == c)) && nat_lt 18446744073709551615 d)) ≡ true
    → nat_lt k j ≡ true
above_number k j b c d x y z e = grind (arith, nat_tests)

is_after : (link : Option ℕ) (p : Key) → IsShort p → IsFromStart key_cmp (after_link link) p → is_above link p.0 ≡ true
is_after None p short x = refl
is_after (Some k) p short x = above_number k p.0 p.1 p.2 p.3 short.row short.counter short.number (before_if (last k) p x)

pub no_link : (g : ByRank) (link : Option ℕ) → IsFirstEntry (has_entry g) (after_link link) None → IsFirstGroup (in_group g) link None
no_link g link x = λ k r n a. x (entry k r n) (from_above link k r n a)

pub link_found : (g : ByRank) (link : Option ℕ) (p : Key) → IsShort p → IsFirstEntry (has_entry g) (after_link link) (Some p) → IsFirstGroup (in_group g) link (Some p.0)
link_found g link p short x = (
  is_after link p short x.0,
  (record { row = p.1; counter = p.2 }, p.3, x.1),
  λ j r n a e. lower p (entry j r n) (x.2 (entry j r n) (from_above link j r n a) e),
)

-- a number was taken from its place and put at another
pub group_moved : (s m u : ByRank) (number : ℕ) (before after : Option Turn)
    → ((k : ℕ) (r : Rank) (n : ℕ) → in_group m k r n ≡ (if is_turn before k r then (if number == n then false else in_group s k r n) else in_group s k r n))
    → ((k : ℕ) (r : Rank) (n : ℕ) → in_group u k r n ≡ (if is_turn after k r then (if number == n then true else in_group m k r n) else in_group m k r n))
    → ((k : ℕ) (r : Rank) → in_group s k r number ≡ is_turn before k r)
    → (k : ℕ) (r : Rank) (n : ℕ) → in_group u k r n ≡ (if number == n then is_turn after k r else in_group s k r n)
group_moved s m u number before after taken put had k r n =
    put k r n ∙ ap (λ b. if is_turn after k r then (if number == n then true else b) else b) (taken k r n) ∙ by_number (number == n) refl
  where
    here : (a b : Bool) → (if a then true else (if b then false else b)) ≡ a
    here true b = refl
    here false true = refl
    here false false = refl

    there : (a b c : Bool) → (if a then (if b then c else c) else (if b then c else c)) ≡ c
    there true true c = refl
    there true false c = refl
    there false true c = refl
    there false false c = refl

    by_number : (t : Bool) → (number == n) ≡ t
        → (if is_turn after k r then (if t then true else (if is_turn before k r then (if t then false else in_group s k r n) else in_group s k r n))
        else (if is_turn before k r then (if t then false else in_group s k r n) else in_group s k r n))
        ≡ (if t then is_turn after k r else in_group s k r n)
    by_number true e =
        ap (λ c. if is_turn after k r then true else (if is_turn before k r then false else c)) (ap (in_group s k r) (sym (eqb-true number n e)) ∙ had k r)
        ∙ here (is_turn after k r) (is_turn before k r)
    by_number false e = there (is_turn after k r) (is_turn before k r) (in_group s k r n)
