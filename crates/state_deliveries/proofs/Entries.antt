-- The order of entries: by link, by rank, then by number; and the first entry of two kinds.
use Rattle.std.proofs.Common.{◌≡◌, ◌∙◌, ℕ, Bool, true, false, refl, sym, ap, arith, Some}
use Rattle.std.specs.Prelude.{◌||◌, ◌&&◌, ◌==◌, nat_lt}
use Rattle.std.specs.Ordering.{nat_cmp, ordering_then, is_eq, is_gt, is_lt}
use Rattle.std.specs.declared.cmp.Ordering.{Ordering}
use Rattle.std.specs.declared.cmp.Ordering.TheVariants.{Less, Equal, Greater}
use Rattle.std.specs.declared.ops.Bound.{Bound}
use Rattle.std.specs.BTreeMap.Range.{IsFromStart}
use Rattle.std.proofs.lemmas.Bool.Decides.{nat_tests}
use Rattle.state_deliveries.specs.Placing.{Key, key_cmp}
use Rattle.state_deliveries.specs.Ranking.{IsFirstEntry}

-- one entry stands after another
abbrev pub later : Key → Key → Bool
later x y =
    ((nat_lt y.0 x.0 || ((x.0 == y.0) && nat_lt y.1 x.1)) || (((x.0 == y.0) && (x.1 == y.1)) && nat_lt y.2 x.2))
    || ((((x.0 == y.0) && (x.1 == y.1)) && (x.2 == y.2)) && nat_lt y.3 x.3)

same_test : (a b : ℕ) → is_eq (nat_cmp a b) ≡ (a == b)
same_test a b = grind (arith, nat_tests)

gt_test : (a b : ℕ) → is_gt (nat_cmp a b) ≡ nat_lt b a
gt_test a b = grind (arith, nat_tests)

lt_test : (a b : ℕ) → is_lt (nat_cmp a b) ≡ nat_lt a b
lt_test a b = grind (arith, nat_tests)

eq_then : (p q : Ordering) → is_eq (ordering_then p q) ≡ (is_eq p && is_eq q)
eq_then Less q = refl
eq_then Equal q = refl
eq_then Greater q = refl

gt_then : (p q : Ordering) → is_gt (ordering_then p q) ≡ (is_gt p || (is_eq p && is_gt q))
gt_then Less q = refl
gt_then Equal q = refl
gt_then Greater q = refl

lt_then : (p q : Ordering) → is_lt (ordering_then p q) ≡ (is_lt p || (is_eq p && is_lt q))
lt_then Less q = refl
lt_then Equal q = refl
lt_then Greater q = refl

is_less : (o : Ordering) → is_lt o ≡ true → o ≡ Less
is_less Less e = refl
is_less Equal e = absurd cc
is_less Greater e = absurd cc

-- the orders of the first parts of two entries
abbrev one : Key → Key → Ordering
one x y = nat_cmp x.0 y.0

abbrev two : Key → Key → Ordering
two x y = ordering_then (one x y) (nat_cmp x.1 y.1)

abbrev three : Key → Key → Ordering
three x y = ordering_then (two x y) (nat_cmp x.2 y.2)

eq_two : (x y : Key) → is_eq (two x y) ≡ ((x.0 == y.0) && (x.1 == y.1))
eq_two x y = eq_then (one x y) (nat_cmp x.1 y.1) ∙ ap (λ b. b && is_eq (nat_cmp x.1 y.1)) (same_test x.0 y.0) ∙ ap (λ b. (x.0 == y.0) && b) (same_test x.1 y.1)

eq_three : (x y : Key) → is_eq (three x y) ≡ (((x.0 == y.0) && (x.1 == y.1)) && (x.2 == y.2))
eq_three x y = eq_then (two x y) (nat_cmp x.2 y.2) ∙ ap (λ b. b && is_eq (nat_cmp x.2 y.2)) (eq_two x y) ∙ ap (λ b. ((x.0 == y.0) && (x.1 == y.1)) && b) (same_test x.2 y.2)

pub gt_is : (x y : Key) → is_gt (key_cmp x y) ≡ later x y
gt_is x y =
    gt_then (three x y) (nat_cmp x.3 y.3)
    ∙ rw (gt_then (two x y) (nat_cmp x.2 y.2), gt_then (one x y) (nat_cmp x.1 y.1), eq_three x y, eq_two x y, same_test x.0 y.0, gt_test x.0 y.0, gt_test x.1 y.1, gt_test x.2 y.2, gt_test x.3 y.3) refl

-- ... and before it
abbrev pub before : Key → Key → Bool
before x y =
    ((nat_lt x.0 y.0 || ((x.0 == y.0) && nat_lt x.1 y.1)) || (((x.0 == y.0) && (x.1 == y.1)) && nat_lt x.2 y.2))
    || ((((x.0 == y.0) && (x.1 == y.1)) && (x.2 == y.2)) && nat_lt x.3 y.3)

lt_is : (x y : Key) → is_lt (key_cmp x y) ≡ before x y
lt_is x y =
    lt_then (three x y) (nat_cmp x.3 y.3)
    ∙ rw (lt_then (two x y) (nat_cmp x.2 y.2), lt_then (one x y) (nat_cmp x.1 y.1), eq_three x y, eq_two x y, same_test x.0 y.0, lt_test x.0 y.0, lt_test x.1 y.1, lt_test x.2 y.2, lt_test x.3 y.3) refl

pub less_if : (x y : Key) → before x y ≡ true → key_cmp x y ≡ Less
less_if x y e = is_less (key_cmp x y) (lt_is x y ∙ e)

pub before_if : (x y : Key) → key_cmp x y ≡ Less → before x y ≡ true
before_if x y e = sym (lt_is x y) ∙ ap is_lt e

-- it is an order
chained_numbers : (a b c d x y z w p q r s : ℕ)
    → (((nat_lt x a || ((a == x) && nat_lt y b)) || (((a == x) && (b == y)) && nat_lt z c)) || ((((a == x) && (b == y)) && (c == z)) && nat_lt w d)) ≡ false
    → (((nat_lt p x || ((x == p) && nat_lt q y)) || (((x == p) && (y == q)) && nat_lt r z)) || ((((x == p) && (y == q)) && (z == r)) && nat_lt s w)) ≡ false
    → (((nat_lt p a || ((a == p) && nat_lt q b)) || (((a == p) && (b == q)) && nat_lt r c)) || ((((a == p) && (b == q)) && (c == r)) && nat_lt s d)) ≡ false
chained_numbers a b c d x y z w p q r s e f = grind (arith, nat_tests)

turned_numbers : (a b c d x y z w : ℕ)
    → (((nat_lt x a || ((a == x) && nat_lt y b)) || (((a == x) && (b == y)) && nat_lt z c)) || ((((a == x) && (b == y)) && (c == z)) && nat_lt w d)) ≡ true
    → (((nat_lt a x || ((x == a) && nat_lt b y)) || (((x == a) && (y == b)) && nat_lt c z)) || ((((x == a) && (y == b)) && (z == c)) && nat_lt d w)) ≡ false
turned_numbers a b c d x y z w e = grind (arith, nat_tests)

itself_numbers : (a b c d : ℕ)
    → (((nat_lt a a || ((a == a) && nat_lt b b)) || (((a == a) && (b == b)) && nat_lt c c)) || ((((a == a) && (b == b)) && (c == c)) && nat_lt d d)) ≡ false
itself_numbers a b c d = grind (arith, nat_tests)

chained : (p q r : Key) → is_gt (key_cmp p q) ≡ false → is_gt (key_cmp q r) ≡ false → is_gt (key_cmp p r) ≡ false
chained p q r x y =
    gt_is p r ∙ chained_numbers p.0 p.1 p.2 p.3 q.0 q.1 q.2 q.3 r.0 r.1 r.2 r.3 (sym (gt_is p q) ∙ x) (sym (gt_is q r) ∙ y)

turned : (p q : Key) → is_gt (key_cmp p q) ≡ true → is_gt (key_cmp q p) ≡ false
turned p q x = gt_is q p ∙ turned_numbers p.0 p.1 p.2 p.3 q.0 q.1 q.2 q.3 (sym (gt_is p q) ∙ x)

itself : (p : Key) → is_gt (key_cmp p p) ≡ false
itself p = gt_is p p ∙ itself_numbers p.0 p.1 p.2 p.3

-- one or the other
one_of : (a b : Bool) → a ≡ true → (a || b) ≡ true
one_of a b x = rw x refl

other_of : (a b : Bool) → b ≡ true → (a || b) ≡ true
other_of true b e = refl
other_of false b e = e

then_other : (a b : Bool) → (a || b) ≡ true → a ≡ false → b ≡ true
then_other true b e f = absurd cc
then_other false b e f = e

-- there are both
both_from : (p q : Key → Bool) (low : Bound Key) (here there m : Key) → IsFirstEntry p low (Some here) → IsFirstEntry q low (Some there)
    → is_gt (key_cmp m here) ≡ false → is_gt (key_cmp m there) ≡ false → (x : Key) → IsFromStart key_cmp low x → (p x || q x) ≡ true → is_gt (key_cmp m x) ≡ false
both_from p q low here there m a b to_here to_there x from e = by_test (p x) refl
  where
    by_test : (v : Bool) → p x ≡ v → is_gt (key_cmp m x) ≡ false
    by_test true f = chained m here x to_here (a.2 x from f)
    by_test false f = chained m there x to_there (b.2 x from (then_other (p x) (q x) e f))

pub first_lower : (p q : Key → Bool) (low : Bound Key) (here there : Key) → is_gt (key_cmp here there) ≡ false → IsFirstEntry p low (Some here) → IsFirstEntry q low (Some there)
    → IsFirstEntry (λ x. p x || q x) low (Some here)
first_lower p q low here there le a b = (a.0, one_of (p here) (q here) a.1, both_from p q low here there here a b (itself here) le)

pub first_higher : (p q : Key → Bool) (low : Bound Key) (here there : Key) → is_gt (key_cmp here there) ≡ true → IsFirstEntry p low (Some here) → IsFirstEntry q low (Some there)
    → IsFirstEntry (λ x. p x || q x) low (Some there)
first_higher p q low here there gt a b = (b.0, other_of (p there) (q there) b.1, both_from p q low here there there a b (turned here there gt) (itself there))
