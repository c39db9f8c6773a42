-- The ids in a range that pass a test, found among those that a table has.
use Rattle.std.proofs.Common.{◌≡◌, ◌∙◌, ◌<◌, ◌≤◌, ◌+◌, ◌%◌, ◌^◌, ◌||◌, ◌&&◌, ◌++◌, ℕ, zero, suc, Bool, true, false, refl, sym, ap, subst, cond, arith, List, [], ◌∷◌, drop, append_assoc, append-nil}
use Rattle.std.specs.Prelude.{◌==◌, nat_lt, nat_le, if◌then◌else◌}
use Rattle.std.specs.List.{filter, AllByRecursion}
use Rattle.std.specs.List.Sorted.{IsStrictlySortedBy}
use Rattle.std.specs.Ordering.{nat_cmp}
use Rattle.std.specs.Cmp.{nat_cmp_is}
use Rattle.std.specs.declared.cmp.Ordering.TheVariants.{Less}
use Rattle.std.proofs.lemmas.Bool.{eqb-true, ltb-true}
use Rattle.std.proofs.lemmas.Bool.Decides.{nat_tests}
use Rattle.std.proofs.lemmas.List.Folds.{list_any-append}
use Rattle.std.proofs.lemmas.List.Kept.{IsStrictlySortedBy-filter}
use Rattle.amqp_session.specs.Serials.{distance}
use Rattle.amqp_session.specs.Ranges.{has, in_range, by_distance, IsRising}
use Rattle.router_trace.specs.Settling.{ids_from, ids_between}

-- ids of 32 bits
abbrev pub Small : List ℕ → Type 0
Small ids = AllByRecursion (λ id. id < 2 ^ 32) ids

same_number : (n : ℕ) → (n == n) ≡ true
same_number n = grind (arith, nat_tests)

or_true : (a b : Bool) → b ≡ true → (a || b) ≡ true
or_true true b e = refl
or_true false b e = e

-- an id in a rising list is further than the head, or is the head
each_of : (P : ℕ → Type 0) (xs : List ℕ) (x : ℕ) → AllByRecursion P xs → has x xs ≡ true → P x
each_of P [] x all e = absurd cc
each_of P (y ∷ ys) x all e = by_test (x == y) refl e (each_of P ys x all.1)
  where
    by_test : (b : Bool) → (x == y) ≡ b → ((x == y) || has x ys) ≡ true → (has x ys ≡ true → P x) → P x
    by_test true f e rest = subst P (sym (eqb-true x y f)) all.0
    by_test false f e rest = rest (ap (λ b. b || has x ys) (sym f) ∙ e)

lesser : (a b : ℕ) → nat_cmp a b ≡ Less → a < b
lesser a b h = grind (arith, nat_tests, h)

-- two ids at the same distance are the same
same_place : (first a b : ℕ) → first < 2 ^ 32 → a < 2 ^ 32 → b < 2 ^ 32 → distance first a ≡ distance first b → a ≡ b
same_place first a b f x y e = grind arith

-- the heads of both lists are equal
heads : (first x y : ℕ) (xs ys : List ℕ) → first < 2 ^ 32 → x < 2 ^ 32 → y < 2 ^ 32
    → AllByRecursion (λ k. by_distance first x k ≡ Less) xs → AllByRecursion (λ k. by_distance first y k ≡ Less) ys
    → has x (y ∷ ys) ≡ true → has y (x ∷ xs) ≡ true → x ≡ y
heads first x y xs ys f sx sy ax ay ex ey = by_tests (x == y) (y == x) refl refl
  where
    by_tests : (b d : Bool) → (x == y) ≡ b → (y == x) ≡ d → x ≡ y
    by_tests true d p q = eqb-true x y p
    by_tests false true p q = sym (eqb-true y x q)
    by_tests false false p q =
        let behind : distance first y < distance first x = lesser (distance first y) (distance first x)
        (each_of (λ k. by_distance first y k ≡ Less) ys x ay (ap (λ b. b || has x ys) (sym p) ∙ ex)) in
        let before : distance first x < distance first y = lesser (distance first x) (distance first y)
        (each_of (λ k. by_distance first x k ≡ Less) xs y ax (ap (λ b. b || has y xs) (sym q) ∙ ey)) in
        absurd (omega (arith, behind, before))

not_again : (first x : ℕ) (xs : List ℕ) → AllByRecursion (λ k. by_distance first x k ≡ Less) xs → has x xs ≡ false
not_again first x xs above = by_test (has x xs) refl
  where
    by_test : (b : Bool) → has x xs ≡ b → has x xs ≡ false
    by_test true e =
        let behind : distance first x < distance first x = lesser (distance first x) (distance first x) (each_of (λ k. by_distance first x k ≡ Less) xs x above e) in
        absurd (omega (arith, behind))
    by_test false e = e

tails : (q x : ℕ) (xs ys : List ℕ) → has x xs ≡ false → has x ys ≡ false → has q (x ∷ xs) ≡ has q (x ∷ ys) → has q xs ≡ has q ys
tails q x xs ys none_x none_y e = by_test (q == x) refl e
  where
    by_test : (b : Bool) → (q == x) ≡ b → ((q == x) || has q xs) ≡ ((q == x) || has q ys) → has q xs ≡ has q ys
    by_test true f e = let is : q ≡ x = eqb-true q x f in ap (λ k. has k xs) is ∙ none_x ∙ sym none_y ∙ ap (λ k. has k ys) (sym is)
    by_test false f e = ap (λ b. b || has q xs) (sym f) ∙ e ∙ ap (λ b. b || has q ys) f

-- Two lists of ids that rise and have the same ids are the same.
same_list : (first : ℕ) → first < 2 ^ 32 → (xs ys : List ℕ) → IsRising first xs → IsRising first ys → Small xs → Small ys
    → ((id : ℕ) → id < 2 ^ 32 → has id xs ≡ has id ys) → xs ≡ ys
unfolding IsStrictlySortedBy
same_list first f [] [] rx ry sx sy same = refl
same_list first f [] (y ∷ ys) rx ry sx sy same =
    let wrong : false ≡ true = same y sy.0 ∙ ap (λ b. b || has y ys) (same_number y) in
    absurd cc
same_list first f (x ∷ xs) [] rx ry sx sy same =
    let wrong : true ≡ false = sym (ap (λ b. b || has x xs) (same_number x)) ∙ same x sx.0 in
    absurd cc
same_list first f (x ∷ xs) (y ∷ ys) rx ry sx sy same = joined is (same_list first f xs ys rx.1 ry.1 sx.1 sy.1 rest)
  where
    is : x ≡ y
    is = heads first x y xs ys f sx.0 sy.0 rx.0 ry.0
        (sym (same x sx.0) ∙ ap (λ b. b || has x xs) (same_number x)) (same y sy.0 ∙ ap (λ b. b || has y ys) (same_number y))

    joined : x ≡ y → xs ≡ ys → (x ∷ xs) ≡ (y ∷ ys)
    joined e more = ap (λ k. k ∷ xs) e ∙ ap (λ l. y ∷ l) more

    rest : (id : ℕ) → id < 2 ^ 32 → has id xs ≡ has id ys
    rest id small = tails id x xs ys (not_again first x xs rx.0) (ap (λ k. has k ys) is ∙ not_again first y ys ry.0)
        (same id small ∙ ap (λ k. has id (k ∷ ys)) (sym is))

-- The ids that a range has.
here : (first n id : ℕ) → first < 2 ^ 32 → n < 2 ^ 32 → id < 2 ^ 32 → (id == (first + n) % 2 ^ 32) ≡ (distance first id == n)
here first n id f l s = by_tests (id == (first + n) % 2 ^ 32) (distance first id == n) refl refl
  where
    there : id ≡ (first + n) % 2 ^ 32 → distance first id ≡ n
    there e = grind arith

    back : distance first id ≡ n → id ≡ (first + n) % 2 ^ 32
    back e = grind arith

    equal : (a b : ℕ) → a ≡ b → (a == b) ≡ true
    equal a b e = grind (arith, nat_tests)

    by_tests : (b d : Bool) → (id == (first + n) % 2 ^ 32) ≡ b → (distance first id == n) ≡ d → (id == (first + n) % 2 ^ 32) ≡ (distance first id == n)
    by_tests true d p q = p ∙ sym (equal (distance first id) n (there (eqb-true id ((first + n) % 2 ^ 32) p)))
    by_tests false true p q = equal id ((first + n) % 2 ^ 32) (back (eqb-true (distance first id) n q)) ∙ sym q
    by_tests false false p q = p ∙ sym q

has_from : (first n id : ℕ) → first < 2 ^ 32 → n ≤ 2 ^ 31 → id < 2 ^ 32 → has id (ids_from first n) ≡ nat_lt (distance first id) n
unfolding ids_from
has_from first zero id f l s = grind arith
has_from first (suc n) id f l s =
    list_any-append (λ other. id == other) (ids_from first n) ((first + n) % 2 ^ 32 ∷ [])
    ∙ ap (λ b. b || ((id == (first + n) % 2 ^ 32) || false)) (has_from first n id f (omega (arith, l)) s)
    ∙ ap (λ b. nat_lt (distance first id) n || (b || false)) (here first n id f (omega (arith, l)) s)
    ∙ one_more (distance first id) n
  where
    one_more : (d n : ℕ) → (nat_lt d n || ((d == n) || false)) ≡ nat_lt d (suc n)
    one_more d n = grind (arith, nat_tests)

snoc_all : (P : ℕ → Type 0) (xs : List ℕ) (y : ℕ) → AllByRecursion P xs → P y → AllByRecursion P (xs ++ y ∷ [])
snoc_all P [] y all p = (p, tt)
snoc_all P (x ∷ xs) y all p = (all.0, snoc_all P xs y all.1 p)

small_from : (first n : ℕ) → Small (ids_from first n)
unfolding ids_from
small_from first zero = tt
small_from first (suc n) = snoc_all (λ id. id < 2 ^ 32) (ids_from first n) ((first + n) % 2 ^ 32) (small_from first n) (low (first + n))
  where
    low : (k : ℕ) → k % 2 ^ 32 < 2 ^ 32
    low k = grind arith

-- the next id is further than all before it
snoc_rises : (first y : ℕ) (xs : List ℕ) → IsRising first xs → AllByRecursion (λ x. by_distance first x y ≡ Less) xs → IsRising first (xs ++ y ∷ [])
unfolding IsStrictlySortedBy
snoc_rises first y [] rise below = (tt, tt)
snoc_rises first y (x ∷ xs) rise below = (snoc_all (λ k. by_distance first x k ≡ Less) xs y rise.0 below.0, snoc_rises first y xs rise.1 below.1)

all_of : (P : ℕ → Type 0) (xs : List ℕ) → Small xs → ((x : ℕ) → x < 2 ^ 32 → has x xs ≡ true → P x) → AllByRecursion P xs
all_of P [] small each = tt
all_of P (x ∷ xs) small each =
    (each x small.0 (ap (λ b. b || has x xs) (same_number x)), all_of P xs small.1 (λ y l e. each y l (or_true (y == x) (has y xs) e)))

rises_from : (first n : ℕ) → first < 2 ^ 32 → n ≤ 2 ^ 31 → IsRising first (ids_from first n)
unfolding ids_from IsStrictlySortedBy
rises_from first zero f l = tt
rises_from first (suc n) f l =
    snoc_rises first ((first + n) % 2 ^ 32) (ids_from first n) (rises_from first n f (omega (arith, l)))
    (all_of (λ x. by_distance first x ((first + n) % 2 ^ 32) ≡ Less) (ids_from first n) (small_from first n)
    (λ x s e.
    let near : distance first x < n = ltb-true (distance first x) n (sym (has_from first n x f (omega (arith, l)) s) ∙ e) in
    let far : distance first ((first + n) % 2 ^ 32) ≡ n = reach first n f (omega (arith, l)) in
    sym (nat_cmp_is (distance first x) (distance first ((first + n) % 2 ^ 32)) Less (omega (arith, near, far)))))
  where
    reach : (first n : ℕ) → first < 2 ^ 32 → n < 2 ^ 32 → distance first ((first + n) % 2 ^ 32) ≡ n
    reach first n f l = grind arith

has_between : (first last id : ℕ) → first < 2 ^ 32 → id < 2 ^ 32 → has id (ids_between first last) ≡ in_range first last id
has_between first last id f s = by_test (nat_lt (distance first last) (2 ^ 31)) refl
  where
    up_to : (d e : ℕ) → nat_lt d (e + 1) ≡ nat_le d e
    up_to d e = grind arith

    by_test : (b : Bool) → nat_lt (distance first last) (2 ^ 31) ≡ b
        → has id (if b then ids_from first (distance first last + 1) else []) ≡ (b && nat_le (distance first id) (distance first last))
    by_test true e =
        let near : distance first last < 2 ^ 31 = ltb-true (distance first last) (2 ^ 31) e in
        has_from first (distance first last + 1) id f (omega (arith, near)) s ∙ up_to (distance first id) (distance first last)
    by_test false e = refl

between_small : (first last : ℕ) → Small (ids_between first last)
between_small first last = by_test (nat_lt (distance first last) (2 ^ 31))
  where
    by_test : (b : Bool) → Small (if b then ids_from first (distance first last + 1) else [])
    by_test true = small_from first (distance first last + 1)
    by_test false = tt

between_rises : (first last : ℕ) → first < 2 ^ 32 → IsRising first (ids_between first last)
unfolding IsStrictlySortedBy
between_rises first last f = by_test (nat_lt (distance first last) (2 ^ 31)) refl
  where
    by_test : (b : Bool) → nat_lt (distance first last) (2 ^ 31) ≡ b → IsRising first (if b then ids_from first (distance first last + 1) else [])
    by_test true e =
        let near : distance first last < 2 ^ 31 = ltb-true (distance first last) (2 ^ 31) e in
        rises_from first (distance first last + 1) f (omega (arith, near))
    by_test false e = tt

-- the rest of a list
has_filter : (p : ℕ → Bool) (id : ℕ) (xs : List ℕ) → has id (filter p xs) ≡ (has id xs && p id)
has_filter p id [] = refl
has_filter p id (x ∷ xs) = by_tests (p x) (id == x) refl refl (has_filter p id xs)
  where
    or_same : (h b : Bool) → ((h && b) ≡ (h && b))
    or_same h b = refl

    by_tests : (b d : Bool) → p x ≡ b → (id == x) ≡ d → has id (filter p xs) ≡ (has id xs && p id)
        → has id (cond (p x) (x ∷ filter p xs) (filter p xs)) ≡ (((id == x) || has id xs) && p id)
    by_tests true true e f rest =
        let same : p id ≡ true = ap p (eqb-true id x f) ∙ e in
        rw (e, f, same) refl
    by_tests false true e f rest =
        let same : p id ≡ false = ap p (eqb-true id x f) ∙ e in
        rw (e, f, same) (rest ∙ ap (λ b. has id xs && b) same ∙ none (has id xs))
      where
        none : (a : Bool) → (a && false) ≡ false
        none true = refl
        none false = refl
    by_tests true false e f rest = rw (e, f) rest
    by_tests false false e f rest = rw (e, f) rest

filter_small : (p : ℕ → Bool) (xs : List ℕ) → ((id : ℕ) → p id ≡ true → id < 2 ^ 32) → Small (filter p xs)
filter_small p [] low = tt
filter_small p (x ∷ xs) low = by_test (p x) refl (filter_small p xs low)
  where
    by_test : (b : Bool) → p x ≡ b → Small (filter p xs) → Small (cond b (x ∷ filter p xs) (filter p xs))
    by_test true e rest = (low x e, rest)
    by_test false e rest = rest

-- The ids in a range that pass are those that pass in a rising list with exactly the ids of the range that a table has.
pub passing : (first last : ℕ) (p there : ℕ → Bool) (ids : List ℕ) → first < 2 ^ 32 → ((id : ℕ) → p id ≡ true → id < 2 ^ 32) → ((id : ℕ) → p id ≡ true → there id ≡ true)
    → IsRising first ids → ((id : ℕ) → id < 2 ^ 32 → has id ids ≡ (in_range first last id && there id)) → filter p ids ≡ filter p (ids_between first last)
passing first last p there ids f low is_there rise exact =
    same_list first f (filter p ids) (filter p (ids_between first last))
    (IsStrictlySortedBy-filter (by_distance first) p ids rise) (IsStrictlySortedBy-filter (by_distance first) p (ids_between first last) (between_rises first last f))
    (filter_small p ids low) (filter_small p (ids_between first last) low)
    (λ id s.
    has_filter p id ids ∙ ap (λ b. b && p id) (exact id s) ∙ both (in_range first last id) (there id) (p id) (is_there id)
    ∙ ap (λ b. b && p id) (sym (has_between first last id f s)) ∙ sym (has_filter p id (ids_between first last)))
  where
    both : (r t q : Bool) → (q ≡ true → t ≡ true) → ((r && t) && q) ≡ (r && q)
    both true true q h = refl
    both true false true h = h refl
    both true false false h = refl
    both false t q h = refl

-- A rising list with exactly the ids of the range that pass has them in order.
pub all_passing : (first last : ℕ) (p : ℕ → Bool) (ids : List ℕ) → first < 2 ^ 32 → ((id : ℕ) → p id ≡ true → id < 2 ^ 32) → Small ids
    → IsRising first ids → ((id : ℕ) → id < 2 ^ 32 → has id ids ≡ (in_range first last id && p id)) → ids ≡ filter p (ids_between first last)
all_passing first last p ids f low small rise exact =
    same_list first f ids (filter p (ids_between first last)) rise
    (IsStrictlySortedBy-filter (by_distance first) p (ids_between first last) (between_rises first last f))
    small (filter_small p (ids_between first last) low)
    (λ id s. exact id s ∙ ap (λ b. b && p id) (sym (has_between first last id f s)) ∙ sym (has_filter p id (ids_between first last)))

-- Small ids that were copied from a list, and those that remain.
pub record AreCopied (found : List ℕ) (k : ℕ) (ids : List ℕ) : Type 0 where
  pub whole : found ++ drop k ids ≡ ids
  pub small : Small found

pub one_copied : (found ids : List ℕ) (k x y : ℕ) → drop k ids ≡ x ∷ drop (k + 1) ids → y ≡ x → y < 2 ^ 32 → AreCopied found k ids → AreCopied (found ++ y ∷ []) (k + 1) ids
one_copied found ids k x y next is low copied = record {
  whole = append_assoc found (y ∷ []) (drop (k + 1) ids) ∙ ap (λ z. found ++ (z ∷ drop (k + 1) ids)) is ∙ ap (λ rest. found ++ rest) (sym next) ∙ copied.whole;
  small = snoc_all (λ id. id < 2 ^ 32) found y copied.small low;
}

pub all_copied : (found ids : List ℕ) (k : ℕ) → drop k ids ≡ [] → AreCopied found k ids → found ≡ ids
all_copied found ids k none copied = sym (append-nil found) ∙ ap (λ rest. found ++ rest) (sym none) ∙ copied.whole
