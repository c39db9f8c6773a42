-- The ids of a range, found among the keys of an ordered map.
use Rattle.std.proofs.Common.{◌≡◌, ◌∙◌, ◌<◌, ◌≤◌, ℕ, Bool, true, false, refl, sym, ap, cond, length, length-append, ◌+◌, ◌&&◌, ◌||◌, not, ◌^◌, List, [], ◌∷◌, ◌++◌, Option, None, arith}
use Rattle.std.specs.Prelude.{◌==◌, nat_lt, nat_le}
use Rattle.std.specs.List.{filter, list_any, AllByRecursion}
use Rattle.std.specs.List.Sorted.{IsStrictlySortedBy}
use Rattle.std.specs.Map.{keys_of, lookup}
use Rattle.std.specs.Option.{is_some}
use Rattle.std.specs.Ordering.{nat_cmp, is_le, is_lt}
use Rattle.std.specs.BTreeMap.{BTreeMap, get, is_at, IsOrdered}
use Rattle.std.specs.BTreeMap.Range.{range_contains, entries_between}
use Rattle.std.specs.Cmp.{nat_cmp_is}
use Rattle.std.specs.declared.cmp.Ordering.TheVariants.{Less, Equal, Greater}
use Rattle.std.specs.declared.ops.Bound.TheVariants.{Included}
use Rattle.std.proofs.lemmas.Bool.{eqb-true, ltb-true, leb-true, le-leb}
use Rattle.std.proofs.lemmas.List.Folds.{list_any-append}
use Rattle.std.proofs.lemmas.List.Kept.{IsStrictlySortedBy-filter}
use Rattle.std.proofs.lemmas.Map.Entries.{lookup-filter-keys, length-keys_of}
use Rattle.std.proofs.lemmas.Map.Made.{is_some-lookup}
use Rattle.std.proofs.lemmas.Map.Keys.{le_from_is_le, ge_from_not_lt}
use Rattle.amqp_session.specs.Serials.{distance}
use Rattle.amqp_session.specs.Ranges.{in_range, has, by_distance, IsRising}

pub by_test : {P : Type 0} (b : Bool) → (b ≡ true → P) → (b ≡ false → P) → P
by_test true f g = f refl
by_test false f g = g refl

same_truth : (a b : Bool) → (a ≡ true → b ≡ true) → (b ≡ true → a ≡ true) → a ≡ b
same_truth true b there back = sym (there refl)
same_truth false true there back = back refl
same_truth false false there back = refl

both : (a b : Bool) → a ≡ true → b ≡ true → (a && b) ≡ true
both a b x y = rw (x, y) refl

first_of : (a b : Bool) → (a && b) ≡ true → a ≡ true
first_of true b h = refl
first_of false b h = h

second_of : (a b : Bool) → (a && b) ≡ true → b ≡ true
second_of true b h = h
second_of false b h = absurd (cc)

-- keys compared
pub same_test : (a b : ℕ) → is_at (nat_cmp a) b ≡ (a == b)
same_test a b =
    by_test (nat_lt a b)
    (λ e. by_test (a == b)
    (λ f. let l : a < b = ltb-true a b e in let s : a ≡ b = eqb-true a b f in absurd (omega (arith, l, s)))
    (λ f. rw (e, f) refl))
    (λ e. by_test (a == b) (λ f. rw (e, f) refl) (λ f. rw (e, f) refl))

less : (a b : ℕ) → a < b → nat_cmp a b ≡ Less
less a b h = sym (nat_cmp_is a b Less h)

abbrev within : ℕ → ℕ → ℕ → Bool
within low high = range_contains nat_cmp (Included low) (Included high)

above : (low high x : ℕ) → within low high x ≡ true → low ≤ x
above low high x h = le_from_is_le low x (first_of (is_le (nat_cmp low x)) (not (is_lt (nat_cmp high x))) h)

below : (low high x : ℕ) → within low high x ≡ true → x ≤ high
below low high x h = ge_from_not_lt high x (turned (is_lt (nat_cmp high x)) (second_of (is_le (nat_cmp low x)) (not (is_lt (nat_cmp high x))) h))
  where
    turned : (b : Bool) → not b ≡ true → b ≡ false
    turned true h = absurd (cc)
    turned false h = refl

within_from : (low high x : ℕ) → low ≤ x → x ≤ high → within low high x ≡ true
within_from low high x l h = grind arith

-- what a part of a map has
abbrev pub ids_within : {X : Type 0} → ℕ → ℕ → List (ℕ × X) → List ℕ
ids_within low high es = keys_of (entries_between nat_cmp (Included low) (Included high) es)

found_if : {X : Type 0} (b : Bool) (found : Option X) → is_some (cond b found None) ≡ (b && is_some found)
found_if true found = refl
found_if false found = refl

pub has_within : {X : Type 0} (low high id : ℕ) (es : List (ℕ × X)) → has id (ids_within low high es) ≡ (within low high id && is_some (lookup (is_at (nat_cmp id)) es))
has_within {X} low high id es =
    ap (λ test. list_any test (ids_within low high es)) (λ i k. sym (same_test id k) i)
    ∙ sym (is_some-lookup (is_at (nat_cmp id)) (entries_between nat_cmp (Included low) (Included high) es))
    ∙ ap is_some (lookup-filter-keys (is_at (nat_cmp id)) (within low high) (within low high id) (λ k e. ap (within low high) (sym (eqb-true id k (sym (same_test id k) ∙ e)))) es)
    ∙ found_if (within low high id) (lookup (is_at (nat_cmp id)) es)

-- the keys of a part are a part of the keys
keys_within : {X : Type 0} (p : ℕ → Bool) (es : List (ℕ × X)) → keys_of (filter (λ e. p e.0) es) ≡ filter p (keys_of es)
keys_within p [] = refl
keys_within {X} p (e ∷ es) = by_head (p e.0) (keys_within p es)
  where
    by_head : (b : Bool) → keys_of (filter (λ e. p e.0) es) ≡ filter p (keys_of es)
        → keys_of (cond b (e ∷ filter (λ e. p e.0) es) (filter (λ e. p e.0) es)) ≡ cond b (e.0 ∷ filter p (keys_of es)) (filter p (keys_of es))
    by_head true rest = ap (λ ks. e.0 ∷ ks) rest
    by_head false rest = rest

passes : (p : ℕ → Bool) (ks : List ℕ) → AllByRecursion (λ k. p k ≡ true) (filter p ks)
passes p [] = tt
passes p (k ∷ ks) = by_test (p k) (λ e. rw e (e, passes p ks)) (λ e. rw e (passes p ks))

-- what rises as numbers rises by the distance, where the distance follows the numbers
turned : (first : ℕ) (P : ℕ → Type 0) → ((a b : ℕ) → P a → P b → nat_cmp a b ≡ Less → by_distance first a b ≡ Less)
    → (x : ℕ) (xs : List ℕ) → P x → AllByRecursion P xs → AllByRecursion (λ y. nat_cmp x y ≡ Less) xs → AllByRecursion (λ y. by_distance first x y ≡ Less) xs
turned first P goes x [] px ps above = tt
turned first P goes x (y ∷ ys) px ps above = (goes x y px ps.0 above.0, turned first P goes x ys px ps.1 above.1)

resorted : (first : ℕ) (P : ℕ → Type 0) → ((a b : ℕ) → P a → P b → nat_cmp a b ≡ Less → by_distance first a b ≡ Less)
    → (xs : List ℕ) → AllByRecursion P xs → IsStrictlySortedBy nat_cmp xs → IsRising first xs
unfolding IsStrictlySortedBy
resorted first P goes [] ps sorted = tt
resorted first P goes (x ∷ xs) ps sorted = (turned first P goes x xs ps.0 ps.1 sorted.0, resorted first P goes xs ps.1 sorted.1)

-- two parts that rise, the second after the first
all_joined : (P : ℕ → Type 0) (xs ys : List ℕ) → AllByRecursion P xs → AllByRecursion P ys → AllByRecursion P (xs ++ ys)
all_joined P [] ys h k = k
all_joined P (x ∷ xs) ys h k = (h.0, all_joined P xs ys h.1 k)

joined : (first : ℕ) (P Q : ℕ → Type 0) → ((a b : ℕ) → P a → Q b → by_distance first a b ≡ Less)
    → (xs ys : List ℕ) → AllByRecursion P xs → AllByRecursion Q ys → IsRising first xs → IsRising first ys → IsRising first (xs ++ ys)
unfolding IsStrictlySortedBy
joined first P Q goes [] ys ps qs sorted rest = rest
joined first P Q goes (x ∷ xs) ys ps qs sorted rest =
    (all_joined (λ y. by_distance first x y ≡ Less) xs ys sorted.0 (each ys qs), joined first P Q goes xs ys ps.1 qs sorted.1 rest)
  where
    each : (zs : List ℕ) → AllByRecursion Q zs → AllByRecursion (λ y. by_distance first x y ≡ Less) zs
    each [] h = tt
    each (z ∷ zs) h = (goes x z ps.0 h.0, each zs h.1)

lesser : (a b : ℕ) → nat_cmp a b ≡ Less → a < b
lesser a b h = by_test (nat_lt a b) (λ e. ltb-true a b e) (λ e. absurd (not_less (a == b) (ap (λ t. cond t Less (cond (a == b) Equal Greater)) (sym e) ∙ h)))
  where
    not_less : (t : Bool) → cond t Equal Greater ≡ Less → ⊥
    not_less true h = absurd (cc)
    not_less false h = absurd (cc)

-- the distances on either side of the first
after_first : (first a b : ℕ) → first ≤ a → a < b → b < 2 ^ 32 → distance first a < distance first b
after_first first a b f l h = grind arith

before_first : (first last a b : ℕ) → last < first → first < 2 ^ 32 → a < b → b ≤ last → distance first a < distance first b
before_first first last a b f s l h = grind arith

around : (first last a b : ℕ) → last < first → first ≤ a → a < 2 ^ 32 → b ≤ last → distance first a < distance first b
around first last a b f l s h = grind arith

-- The ids of a range that doesn't go past the highest number, ...
sorted_within : {X : Type 0} (low high : ℕ) (m : BTreeMap ℕ X) → IsOrdered nat_cmp m → IsStrictlySortedBy nat_cmp (filter (within low high) (keys_of m.entries))
sorted_within low high m ordered = IsStrictlySortedBy-filter nat_cmp (within low high) (keys_of m.entries) ordered

piece_rising : {X : Type 0} (first low high : ℕ) (m : BTreeMap ℕ X)
    → ((a b : ℕ) → within low high a ≡ true → within low high b ≡ true → nat_cmp a b ≡ Less → by_distance first a b ≡ Less)
    → IsOrdered nat_cmp m → IsRising first (filter (within low high) (keys_of m.entries))
piece_rising first low high m goes ordered =
    resorted first (λ k. within low high k ≡ true) goes (filter (within low high) (keys_of m.entries)) (passes (within low high) (keys_of m.entries)) (sorted_within low high m ordered)

low_rising : {X : Type 0} (first high : ℕ) (m : BTreeMap ℕ X) → high < 2 ^ 32 → IsOrdered nat_cmp m → IsRising first (filter (within first high) (keys_of m.entries))
low_rising first high m small ordered = piece_rising first first high m goes ordered
  where
    goes : (a b : ℕ) → within first high a ≡ true → within first high b ≡ true → nat_cmp a b ≡ Less → by_distance first a b ≡ Less
    goes a b x y l =
        let top : b ≤ high = below first high b y in
        less (distance first a) (distance first b) (after_first first a b (above first high a x) (lesser a b l) (omega (arith, top, small)))

high_rising : {X : Type 0} (first last : ℕ) (m : BTreeMap ℕ X) → last < first → first < 2 ^ 32 → IsOrdered nat_cmp m → IsRising first (filter (within 0 last) (keys_of m.entries))
high_rising first last m wraps small ordered = piece_rising first 0 last m goes ordered
  where
    goes : (a b : ℕ) → within 0 last a ≡ true → within 0 last b ≡ true → nat_cmp a b ≡ Less → by_distance first a b ≡ Less
    goes a b x y l = less (distance first a) (distance first b) (before_first first last a b wraps small (lesser a b l) (below 0 last b y))

pub straight_rising : {X : Type 0} (first last : ℕ) (m : BTreeMap ℕ X) → last < 2 ^ 32 → IsOrdered nat_cmp m → IsRising first (ids_within first last m.entries)
straight_rising first last m small ordered = rw (keys_within (within first last) m.entries) (low_rising first last m small ordered)

-- ... and of one that does
pub wrapped_rising : {X : Type 0} (first last : ℕ) (m : BTreeMap ℕ X) → last < first → first < 2 ^ 32 → IsOrdered nat_cmp m
    → IsRising first (ids_within first 4294967295 m.entries ++ ids_within 0 last m.entries)
wrapped_rising first last m wraps small ordered =
    rw (keys_within (within first 4294967295) m.entries, keys_within (within 0 last) m.entries)
    (joined first (λ k. within first 4294967295 k ≡ true) (λ k. within 0 last k ≡ true) goes _ _
    (passes (within first 4294967295) (keys_of m.entries)) (passes (within 0 last) (keys_of m.entries))
    (low_rising first 4294967295 m (omega arith) ordered) (high_rising first last m wraps small ordered))
  where
    goes : (a b : ℕ) → within first 4294967295 a ≡ true → within 0 last b ≡ true → by_distance first a b ≡ Less
    goes a b x y =
        let top : a ≤ 4294967295 = below first 4294967295 a x in
        less (distance first a) (distance first b) (around first last a b wraps (above first 4294967295 a x) (omega (arith, top)) (below 0 last b y))

-- which ids a range has
le_true : (a b : ℕ) → nat_le a b ≡ true → a ≤ b
le_true a b h = leb-true a b h

not_le : (a b : ℕ) → nat_le a b ≡ false → b < a
not_le a b h = grind arith

inside_straight : (first last id : ℕ) → first ≤ last → last < 2 ^ 32 → id < 2 ^ 32 → distance first id ≤ distance first last → (first ≤ id) × (id ≤ last)
inside_straight first last id o s i h = (grind arith, grind arith)

from_straight : (first last id : ℕ) → first ≤ id → id ≤ last → last < 2 ^ 32 → distance first id ≤ distance first last
from_straight first last id f l s = grind arith

in_straight : (first last id : ℕ) → first ≤ last → last < 2 ^ 32 → id < 2 ^ 32 → nat_lt (distance first last) (2 ^ 31) ≡ true → in_range first last id ≡ within first last id
in_straight first last id order small s half = rw half (same_truth (nat_le (distance first id) (distance first last)) (within first last id)
    (λ h. let i = inside_straight first last id order small s (le_true (distance first id) (distance first last) h) in within_from first last id i.0 i.1)
    (λ h. le-leb (distance first id) (distance first last) (from_straight first last id (above first last id h) (below first last id h) small)))

or_left : (a b : Bool) → a ≡ true → (a || b) ≡ true
or_left a b h = rw h refl

or_right : (a b : Bool) → b ≡ true → (a || b) ≡ true
or_right true b h = refl
or_right false b h = h

up_to_last : (first last id : ℕ) → last < first → first < 2 ^ 32 → id < first → distance first id ≤ distance first last → id ≤ last
up_to_last first last id o s i h = grind arith

from_first : (first last id : ℕ) → last < first → first ≤ id → id < 2 ^ 32 → distance first id ≤ distance first last
from_first first last id o l s = grind arith

from_zero : (first last id : ℕ) → last < first → first < 2 ^ 32 → id ≤ last → distance first id ≤ distance first last
from_zero first last id o s l = grind arith

in_wrapped : (first last id : ℕ) → last < first → first < 2 ^ 32 → id < 2 ^ 32 → nat_lt (distance first last) (2 ^ 31) ≡ true
    → in_range first last id ≡ (within first 4294967295 id || within 0 last id)
in_wrapped first last id wraps small s half = rw half (same_truth (nat_le (distance first id) (distance first last)) (within first 4294967295 id || within 0 last id)
    (λ h. by_test (nat_le first id)
    (λ e. or_left (within first 4294967295 id) (within 0 last id) (within_from first 4294967295 id (le_true first id e) (omega arith)))
    (λ e. or_right (within first 4294967295 id) (within 0 last id)
    (within_from 0 last id (omega arith) (up_to_last first last id wraps small (not_le first id e) (le_true (distance first id) (distance first last) h)))))
    (λ h. by_test (within first 4294967295 id)
    (λ e. le-leb (distance first id) (distance first last) (from_first first last id wraps (above first 4294967295 id e) s))
    (λ e. le-leb (distance first id) (distance first last) (from_zero first last id wraps small (below 0 last id (ap (λ b. b || within 0 last id) (sym e) ∙ h))))))

pub straight_exact : {X : Type 0} (first last id : ℕ) (m : BTreeMap ℕ X) → first ≤ last → last < 2 ^ 32 → id < 2 ^ 32 → nat_lt (distance first last) (2 ^ 31) ≡ true
    → has id (ids_within first last m.entries) ≡ (in_range first last id && is_some (get nat_cmp m id))
straight_exact first last id m order small s half = has_within first last id m.entries ∙ ap (λ b. b && is_some (get nat_cmp m id)) (sym (in_straight first last id order small s half))

either : (a b c : Bool) → ((a && c) || (b && c)) ≡ ((a || b) && c)
either true true true = refl
either true true false = refl
either true false true = refl
either true false false = refl
either false b c = refl

pub wrapped_exact : {X : Type 0} (first last id : ℕ) (m : BTreeMap ℕ X) → last < first → first < 2 ^ 32 → id < 2 ^ 32 → nat_lt (distance first last) (2 ^ 31) ≡ true
    → has id (ids_within first 4294967295 m.entries ++ ids_within 0 last m.entries) ≡ (in_range first last id && is_some (get nat_cmp m id))
wrapped_exact first last id m wraps small s half =
    let there = is_some (get nat_cmp m id) in
    list_any-append (λ other. id == other) (ids_within first 4294967295 m.entries) (ids_within 0 last m.entries)
    ∙ ap (λ b. b || has id (ids_within 0 last m.entries)) (has_within first 4294967295 id m.entries)
    ∙ ap (λ b. (within first 4294967295 id && there) || b) (has_within 0 last id m.entries)
    ∙ either (within first 4294967295 id) (within 0 last id) there
    ∙ ap (λ b. b && there) (sym (in_wrapped first last id wraps small s half))

-- The same by what a list of ids was made of.
pub has_none : (first last id : ℕ) (ids : List ℕ) (found : Bool) → ids ≡ [] → nat_lt (distance first last) (2 ^ 31) ≡ false → has id ids ≡ (in_range first last id && found)
has_none first last id ids found none far = rw (none, far) refl

pub none_rises : (first : ℕ) (ids : List ℕ) → ids ≡ [] → IsRising first ids
unfolding IsStrictlySortedBy
none_rises first ids none = rw none tt

-- no more ids than there are deliveries
kept_few : (p : ℕ → Bool) (ks : List ℕ) → length (filter p ks) ≤ length ks
kept_few p [] = omega arith
kept_few p (k ∷ ks) = by_head (p k) (kept_few p ks)
  where
    by_head : (b : Bool) → length (filter p ks) ≤ length ks → length (cond b (k ∷ filter p ks) (filter p ks)) ≤ length (k ∷ ks)
    by_head true rest = omega (arith, rest)
    by_head false rest = omega (arith, rest)

both_few : (p q : ℕ → Bool) → ((k : ℕ) → p k ≡ true → q k ≡ false) → (ks : List ℕ) → length (filter p ks) + length (filter q ks) ≤ length ks
both_few p q apart [] = omega arith
both_few p q apart (k ∷ ks) = by_head (p k) (q k) (apart k) (both_few p q apart ks)
  where
    by_head : (b c : Bool) → (b ≡ true → c ≡ false) → length (filter p ks) + length (filter q ks) ≤ length ks
        → length (cond b (k ∷ filter p ks) (filter p ks)) + length (cond c (k ∷ filter q ks) (filter q ks)) ≤ length (k ∷ ks)
    by_head true true other rest = absurd (let e : true ≡ false = other refl in cc)
    by_head true false other rest = omega (arith, rest)
    by_head false true other rest = omega (arith, rest)
    by_head false false other rest = omega (arith, rest)

pub straight_few : {X : Type 0} (first last : ℕ) (es : List (ℕ × X)) → length (ids_within first last es) ≤ length es
straight_few first last es = rw (keys_within (within first last) es, sym (length-keys_of es)) (kept_few (within first last) (keys_of es))

pub wrapped_few : {X : Type 0} (first last : ℕ) (es : List (ℕ × X)) → last < first → length (ids_within first 4294967295 es ++ ids_within 0 last es) ≤ length es
wrapped_few first last es wraps =
    rw (length-append (ids_within first 4294967295 es) (ids_within 0 last es), keys_within (within first 4294967295) es, keys_within (within 0 last) es, sym (length-keys_of es))
    (both_few (within first 4294967295) (within 0 last) apart (keys_of es))
  where
    apart : (k : ℕ) → within first 4294967295 k ≡ true → within 0 last k ≡ false
    apart k h = by_test (within 0 last k) (λ e. let low : first ≤ k = above first 4294967295 k h in let high : k ≤ last = below 0 last k e in absurd (omega (arith, low, high, wraps))) (λ e. e)
