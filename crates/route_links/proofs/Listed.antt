-- The deliveries that the ids of a disposition name, one after another.
use Rattle.std.proofs.Common.{◌≡◌, ◌∙◌, ◌<◌, ◌≤◌, ℕ, Bool, true, false, refl, sym, ap, subst, length, ◌+◌, ◌%◌, ◌&&◌, ◌||◌, ◌^◌, List, [], ◌∷◌, ◌++◌, Option, Some, None, option_to_list, if◌then◌else◌, arith, zero, suc}
use Rattle.std.specs.Prelude.{◌==◌, nat_lt, nat_le, drop, take, slice_index_or}
use Rattle.std.specs.List.{filter, filter_map, cons_option, AllByRecursion}
use Rattle.std.specs.List.Sorted.{IsStrictlySortedBy}
use Rattle.std.specs.Option.{is_some}
use Rattle.std.specs.Cmp.{nat_cmp_is}
use Rattle.std.specs.declared.cmp.Ordering.TheVariants.{Less, Equal, Greater}
use Rattle.std.specs.Ordering.{nat_cmp}
use Rattle.std.proofs.lemmas.Bool.{eqb-true, eqb-false, eq-eqb, ltb-true, lt-ltb, leb-true, le-leb, both_ways}
use Rattle.std.proofs.lemmas.List.{at_drop_more, at_drop_all, take_more, append_assoc, append-nil, take_all}
use Rattle.std.proofs.lemmas.List.Kept.{IsStrictlySortedBy-filter}
use Rattle.amqp_session.specs.Serials.{distance}
use Rattle.amqp_session.specs.Ranges.{in_range, has, by_distance, IsRising}
use Rattle.route_links.specs.Named.{serials, ids_of}

by_test : {P : Type 0} (b : Bool) → (b ≡ true → P) → (b ≡ false → P) → P
by_test true f g = f refl
by_test false f g = g refl

same_truth : (a b : Bool) → (a ≡ true → b ≡ true) → (b ≡ true → a ≡ true) → a ≡ b
same_truth true b there back = sym (there refl)
same_truth false true there back = back refl
same_truth false false there back = refl

first_of : (a b : Bool) → (a && b) ≡ true → a ≡ true
first_of true b h = refl
first_of false b h = h

second_of : (a b : Bool) → (a && b) ≡ true → b ≡ true
second_of true b h = h
second_of false b h = absurd (cc)

both : (a b : Bool) → a ≡ true → b ≡ true → (a && b) ≡ true
both a b x y = rw (x, y) refl

-- ids are below 2^32
abbrev pub AllSmall : List ℕ → Type 0
AllSmall xs = AllByRecursion (λ x. x < 2 ^ 32) xs

-- each of these is further away than this one
abbrev AllFurther : ℕ → ℕ → List ℕ → Type 0
AllFurther first x ys = AllByRecursion (λ y. by_distance first x y ≡ Less) ys

less : (a b : ℕ) → a < b → nat_cmp a b ≡ Less
less a b h = sym (nat_cmp_is a b Less h)

lesser : (a b : ℕ) → nat_cmp a b ≡ Less → a < b
lesser a b h = by_test (nat_lt a b) (λ e. ltb-true a b e) (λ e. absurd (not_less (a == b) (ap (λ t. if t then Less else (if a == b then Equal else Greater)) (sym e) ∙ h)))
  where
    not_less : (t : Bool) → (if t then Equal else Greater) ≡ Less → ⊥
    not_less true h = absurd (cc)
    not_less false h = absurd (cc)

in_all : (P : ℕ → Type 0) (x : ℕ) (xs : List ℕ) → AllByRecursion P xs → has x xs ≡ true → P x
in_all P x [] all is = absurd (cc)
in_all P x (z ∷ xs) all is = by_test (x == z)
    (λ e. subst P (sym (eqb-true x z e)) all.0)
    (λ e. in_all P x xs all.1 (sym (ap (λ b. b || has x xs) e) ∙ is))

has_first : (x : ℕ) (xs : List ℕ) → has x (x ∷ xs) ≡ true
has_first x xs = ap (λ b. b || has x xs) (eq-eqb x x refl)

-- none of these is as near as this one
not_further : (first x : ℕ) (ys : List ℕ) → AllFurther first x ys → has x ys ≡ false
not_further first x ys all = by_test (has x ys)
    (λ e. let far = lesser (distance first x) (distance first x) (in_all (λ y. by_distance first x y ≡ Less) x ys all e) in absurd (omega (arith, far)))
    (λ e. e)

abbrev SameIds : List ℕ → List ℕ → Type 0
SameIds xs ys = (q : ℕ) → q < 2 ^ 32 → has q xs ≡ has q ys

same_first : (first x y : ℕ) (xs ys : List ℕ) → AllFurther first x xs → AllFurther first y ys → x < 2 ^ 32 → y < 2 ^ 32 → SameIds (x ∷ xs) (y ∷ ys) → x ≡ y
same_first first x y xs ys far_x far_y small_x small_y same = by_test (x == y) (λ e. eqb-true x y e)
    (λ e.
    let there : has x ys ≡ true = sym (ap (λ b. b || has x ys) e) ∙ (sym (same x small_x) ∙ has_first x xs) in
    let other : (y == x) ≡ false = by_test (y == x) (λ f. absurd (eqb-false x y e (sym (eqb-true y x f)))) (λ f. f) in
    let here : has y xs ≡ true = sym (ap (λ b. b || has y xs) other) ∙ (same y small_y ∙ has_first y ys) in
    let up : distance first y < distance first x = lesser (distance first y) (distance first x) (in_all (λ z. by_distance first y z ≡ Less) x ys far_y there) in
    let down : distance first x < distance first y = lesser (distance first x) (distance first y) (in_all (λ z. by_distance first x z ≡ Less) y xs far_x here) in
    absurd (omega (arith, up, down)))

same_others : (first x : ℕ) (xs ys : List ℕ) → AllFurther first x xs → AllFurther first x ys → SameIds (x ∷ xs) (x ∷ ys) → SameIds xs ys
same_others first x xs ys far_x far_y same q small = by_test (q == x)
    (λ e. let is : q ≡ x = eqb-true q x e in
    ap (λ z. has z xs) is ∙ not_further first x xs far_x ∙ sym (not_further first x ys far_y) ∙ ap (λ z. has z ys) (sym is))
    (λ e. sym (ap (λ b. b || has q xs) e) ∙ same q small ∙ ap (λ b. b || has q ys) e)

-- lists of the same ids that both rise are the same
same_list : (first : ℕ) (xs ys : List ℕ) → IsRising first xs → IsRising first ys → AllSmall xs → AllSmall ys → SameIds xs ys → xs ≡ ys
unfolding IsStrictlySortedBy
same_list first [] [] up_x up_y small_x small_y same = refl
same_list first [] (y ∷ ys) up_x up_y small_x small_y same = absurd (both_ways (has y (y ∷ ys)) (sym (same y small_y.0)) (has_first y ys))
same_list first (x ∷ xs) [] up_x up_y small_x small_y same = absurd (both_ways (has x (x ∷ xs)) (same x small_x.0) (has_first x xs))
same_list first (x ∷ xs) (y ∷ ys) up_x up_y small_x small_y same =
    let is : x ≡ y = same_first first x y xs ys up_x.0 up_y.0 small_x.0 small_y.0 same in
    let far : AllFurther first x ys = subst (λ z. AllFurther first z ys) (sym is) up_y.0 in
    let tails : SameIds (x ∷ xs) (x ∷ ys) = λ q small. same q small ∙ ap (λ z. has q (z ∷ ys)) (sym is) in
    let rest : xs ≡ ys = same_list first xs ys up_x.1 up_y.1 small_x.1 small_y.1 (same_others first x xs ys up_x.0 far tails) in
    ap (λ z. z ∷ xs) is ∙ ap (λ zs. y ∷ zs) rest

-- The ids from one on, one after another: the id of each step, ...
abbrev at : ℕ → ℕ → ℕ
at first step = (first + step) % 2 ^ 32

at_small : (first step : ℕ) → at first step < 2 ^ 32
at_small first step = grind arith

one_on : (first step : ℕ) → (at first step + 1) % 2 ^ 32 ≡ at first (step + 1)
one_on first step = grind arith

step_of : (first step : ℕ) → first < 2 ^ 32 → step < 2 ^ 32 → distance first (at first step) ≡ step
step_of first step f s = grind arith

at_step : (first step q : ℕ) → first < 2 ^ 32 → q < 2 ^ 32 → distance first q ≡ step → q ≡ at first step
at_step first step q f s is = grind arith

-- ... which are small, ...
serials_small : (first step n : ℕ) → AllSmall (serials (at first step) n)
serials_small first step zero = tt
serials_small first step (suc n) = (at_small first step, subst (λ x. AllSmall (serials x n)) (sym (one_on first step)) (serials_small first (step + 1) n))

-- ... further and further away, ...
far_from : (first low step n : ℕ) → first < 2 ^ 32 → low ≤ step → step + n ≤ 2 ^ 32 → AllByRecursion (λ x. low ≤ distance first x) (serials (at first step) n)
far_from first low step zero f l s = tt
far_from first low step (suc n) f l s = (
  let is : distance first (at first step) ≡ step = step_of first step f (omega (arith, s)) in omega (arith, is, l),
  subst (λ x. AllByRecursion (λ y. low ≤ distance first y) (serials x n)) (sym (one_on first step)) (far_from first low (step + 1) n f (omega (arith, l)) (omega (arith, s))),
)

further_than : (first x low : ℕ) (ys : List ℕ) → distance first x < low → AllByRecursion (λ y. low ≤ distance first y) ys → AllFurther first x ys
further_than first x low [] h all = tt
further_than first x low (y ∷ ys) h all = (let l = all.0 in less (distance first x) (distance first y) (omega (arith, l, h)), further_than first x low ys h all.1)

serials_rise : (first step n : ℕ) → first < 2 ^ 32 → step + n ≤ 2 ^ 32 → IsRising first (serials (at first step) n)
unfolding IsStrictlySortedBy
serials_rise first step zero f s = tt
serials_rise first step (suc n) f s =
    let is : distance first (at first step) ≡ step = step_of first step f (omega (arith, s)) in (
      subst (λ x. AllFurther first (at first step) (serials x n)) (sym (one_on first step))
          (further_than first (at first step) (step + 1) (serials (at first (step + 1)) n) (omega (arith, is)) (far_from first (step + 1) (step + 1) n f (omega arith) (omega (arith, s)))),
      subst (λ x. IsRising first (serials x n)) (sym (one_on first step)) (serials_rise first (step + 1) n f (omega (arith, s))),
    )

-- ... and all that are so far away
serials_have : (first step n q : ℕ) → first < 2 ^ 32 → q < 2 ^ 32 → step + n ≤ 2 ^ 32 → has q (serials (at first step) n) ≡ (nat_le step (distance first q) && nat_lt (distance first q) (step + n))
serials_have first step zero q f small s = same_truth false (nat_le step (distance first q) && nat_lt (distance first q) (step + 0)) (λ h. absurd (cc))
    (λ h.
    let l : step ≤ distance first q = leb-true step (distance first q) (first_of (nat_le step (distance first q)) (nat_lt (distance first q) (step + 0)) h) in
    let u : distance first q < step + 0 = ltb-true (distance first q) (step + 0) (second_of (nat_le step (distance first q)) (nat_lt (distance first q) (step + 0)) h) in
    absurd (omega (arith, l, u)))
serials_have first step (suc n) q f small s =
    let next : has q (serials ((at first step + 1) % 2 ^ 32) n) ≡ (nat_le (step + 1) (distance first q) && nat_lt (distance first q) (step + 1 + n)) =
    ap (λ x. has q (serials x n)) (one_on first step) ∙ serials_have first (step + 1) n q f small (omega (arith, s)) in
    by_test (q == at first step)
    (λ e.
    let is : distance first q ≡ step = ap (distance first) (eqb-true q (at first step) e) ∙ step_of first step f (omega (arith, s)) in
    ap (λ b. b || has q (serials ((at first step + 1) % 2 ^ 32) n)) e
    ∙ sym (both (nat_le step (distance first q)) (nat_lt (distance first q) (step + suc n)) (le-leb step (distance first q) (omega (arith, is))) (lt-ltb (distance first q) (step + suc n) (omega (arith, is)))))
    (λ e.
    let other : distance first q ≡ step → ⊥ = λ d. eqb-false q (at first step) e (at_step first step q f small d) in
    ap (λ b. b || has q (serials ((at first step + 1) % 2 ^ 32) n)) e ∙ next ∙ wider (distance first q) other)
  where
    wider : (d : ℕ) → (d ≡ step → ⊥) → (nat_le (step + 1) d && nat_lt d (step + 1 + n)) ≡ (nat_le step d && nat_lt d (step + suc n))
    wider d other = same_truth (nat_le (step + 1) d && nat_lt d (step + 1 + n)) (nat_le step d && nat_lt d (step + suc n))
        (λ h.
        let l : step + 1 ≤ d = leb-true (step + 1) d (first_of (nat_le (step + 1) d) (nat_lt d (step + 1 + n)) h) in
        let u : d < step + 1 + n = ltb-true d (step + 1 + n) (second_of (nat_le (step + 1) d) (nat_lt d (step + 1 + n)) h) in
        both (nat_le step d) (nat_lt d (step + suc n)) (le-leb step d (omega (arith, l))) (lt-ltb d (step + suc n) (omega (arith, u))))
        (λ h.
        let l : step ≤ d = leb-true step d (first_of (nat_le step d) (nat_lt d (step + suc n)) h) in
        let u : d < step + suc n = ltb-true d (step + suc n) (second_of (nat_le step d) (nat_lt d (step + suc n)) h) in
        both (nat_le (step + 1) d) (nat_lt d (step + 1 + n)) (le-leb (step + 1) d (omega (arith, l, other))) (lt-ltb d (step + 1 + n) (omega (arith, u))))

-- those of a list that are named
has_filtered : (p : ℕ → Bool) (q : ℕ) (xs : List ℕ) → has q (filter p xs) ≡ (has q xs && p q)
has_filtered p q [] = refl
has_filtered p q (x ∷ xs) = by_test (p x)
    (λ e. rw e (by_test (q == x)
    (λ f. rw f (sym (ap p (eqb-true q x f) ∙ e)))
    (λ f. rw f (has_filtered p q xs))))
    (λ e. rw e (by_test (q == x)
    (λ f. rw f (has_filtered p q xs ∙ ap (λ b. has q xs && b) (ap p (eqb-true q x f) ∙ e) ∙ nothing (has q xs) ∙ sym (ap p (eqb-true q x f) ∙ e)))
    (λ f. rw f (has_filtered p q xs))))
  where
    nothing : (b : Bool) → (b && false) ≡ false
    nothing true = refl
    nothing false = refl

all_filtered : (P : ℕ → Type 0) (p : ℕ → Bool) (xs : List ℕ) → AllByRecursion P xs → AllByRecursion P (filter p xs)
all_filtered P p [] all = tt
all_filtered P p (x ∷ xs) all = by_test (p x) (λ e. rw e (all.0, all_filtered P p xs all.1)) (λ e. rw e (all_filtered P p xs all.1))

named_one : (f : ℕ → Option ℕ) (x : ℕ) (xs : List ℕ) (found : Option ℕ) → f x ≡ found → filter_map f (filter (λ y. is_some (f y)) xs) ≡ filter_map f xs
    → filter_map f (filter (λ y. is_some (f y)) (x ∷ xs)) ≡ filter_map f (x ∷ xs)
named_one f x xs None e rest = rw e rest
named_one f x xs (Some n) e rest = rw (e, e) (ap (λ ns. n ∷ ns) rest)

named_only : (f : ℕ → Option ℕ) (xs : List ℕ) → filter_map f (filter (λ x. is_some (f x)) xs) ≡ filter_map f xs
named_only f [] = refl
named_only f (x ∷ xs) = named_one f x xs (f x) refl (named_only f xs)

-- a range that isn't too long has the ids from its first on
first_step : (first : ℕ) → first < 2 ^ 32 → at first 0 ≡ first
first_step first low = grind arith

up_to : (d far : ℕ) → nat_le d far ≡ (nat_le 0 d && nat_lt d (0 + (far + 1)))
up_to d far = same_truth (nat_le d far) (nat_le 0 d && nat_lt d (0 + (far + 1)))
    (λ h. let l : d ≤ far = leb-true d far h in both (nat_le 0 d) (nat_lt d (0 + (far + 1))) (le-leb 0 d (omega arith)) (lt-ltb d (0 + (far + 1)) (omega (arith, l))))
    (λ h. let u : d < 0 + (far + 1) = ltb-true d (0 + (far + 1)) (second_of (nat_le 0 d) (nat_lt d (0 + (far + 1))) h) in le-leb d far (omega (arith, u)))

in_serials : (first last q : ℕ) → first < 2 ^ 32 → q < 2 ^ 32 → nat_lt (distance first last) (2 ^ 31) ≡ true → in_range first last q ≡ has q (serials first (distance first last + 1))
in_serials first last q low small half =
    let near : distance first last < 2 ^ 31 = ltb-true (distance first last) (2 ^ 31) half in
    ap (λ b. b && nat_le (distance first q) (distance first last)) half
    ∙ up_to (distance first q) (distance first last)
    ∙ sym (serials_have first 0 (distance first last + 1) q low small (omega (arith, near)))
    ∙ ap (λ x. has q (serials x (distance first last + 1))) (first_step first low)

whole : (first last : ℕ) (p : ℕ → Bool) (ids : List ℕ) → first < 2 ^ 32 → nat_lt (distance first last) (2 ^ 31) ≡ true
    → ((q : ℕ) → q < 2 ^ 32 → has q ids ≡ (in_range first last q && p q)) → IsRising first ids → AllSmall ids
    → ids ≡ filter p (serials first (distance first last + 1))
whole first last p ids low half exact rises small =
    let near : distance first last < 2 ^ 31 = ltb-true (distance first last) (2 ^ 31) half in
    let up : IsRising first (serials first (distance first last + 1)) = subst (λ x. IsRising first (serials x (distance first last + 1))) (first_step first low) (serials_rise first 0 (distance first last + 1) low (omega (arith, near))) in
    let little : AllSmall (serials first (distance first last + 1)) = subst (λ x. AllSmall (serials x (distance first last + 1))) (first_step first low) (serials_small first 0 (distance first last + 1)) in
    same_list first ids (filter p (serials first (distance first last + 1))) rises (IsStrictlySortedBy-filter (by_distance first) p (serials first (distance first last + 1)) up)
    small (all_filtered (λ x. x < 2 ^ 32) p (serials first (distance first last + 1)) little)
    (λ q s. exact q s ∙ ap (λ b. b && p q) (in_serials first last q low s half) ∙ sym (has_filtered p q (serials first (distance first last + 1))))

-- a longer one has none
none_far : (first last : ℕ) (p : ℕ → Bool) (ids : List ℕ) → nat_lt (distance first last) (2 ^ 31) ≡ false
    → ((q : ℕ) → q < 2 ^ 32 → has q ids ≡ (in_range first last q && p q)) → AllSmall ids → ids ≡ []
none_far first last p [] far exact small = refl
none_far first last p (x ∷ xs) far exact small =
    absurd (both_ways (has x (x ∷ xs)) (exact x small.0 ∙ ap (λ b. b && nat_le (distance first x) (distance first last) && p x) far) (has_first x xs))

-- the ids of a map that are in a range are those of the range that are named
listed : (first last : ℕ) (f : ℕ → Option ℕ) (ids : List ℕ) → first < 2 ^ 32
    → ((q : ℕ) → q < 2 ^ 32 → has q ids ≡ (in_range first last q && is_some (f q))) → IsRising first ids → AllSmall ids
    → filter_map f ids ≡ filter_map f (ids_of first last)
listed first last f ids low exact rises small = by_test (nat_lt (distance first last) (2 ^ 31))
    (λ e. ap (filter_map f) (whole first last (λ x. is_some (f x)) ids low e exact rises small) ∙ named_only f (serials first (distance first last + 1))
    ∙ ap (λ b. filter_map f (if b then serials first (distance first last + 1) else [])) (sym e))
    (λ e. ap (filter_map f) (none_far first last (λ x. is_some (f x)) ids e exact small)
    ∙ ap (λ b. filter_map f (if b then serials first (distance first last + 1) else [])) (sym e))

-- a step of the loop that looks each of them up
pub one_more : (f : ℕ → Option ℕ) (before now ids : List ℕ) (i id : ℕ) → i < length ids → id ≡ slice_index_or ids i id → id < 2 ^ 32 → now ≡ before ++ option_to_list (f id)
    → (before ++ filter_map f (drop i ids) ≡ filter_map f ids) × AllSmall (take i ids)
    → (now ++ filter_map f (drop (i + 1) ids) ≡ filter_map f ids) × AllSmall (take (i + 1) ids)
one_more f before now ids i id l is low added so_far = (
  ap (λ ns. ns ++ filter_map f (drop (i + 1) ids)) added ∙ moved (f id) before (filter_map f (drop (i + 1) ids))
      ∙ ap (λ x. before ++ filter_map f (x ∷ drop (i + 1) ids)) is ∙ sym (at_drop_more (λ xs. before ++ filter_map f xs) ids i id l) ∙ so_far.0,
  subst AllSmall (sym (take_more ids i id l ∙ ap (λ x. take i ids ++ x ∷ []) (sym is))) (all_after (take i ids) id so_far.1 low),
)
  where
    all_after : (xs : List ℕ) (x : ℕ) → AllSmall xs → x < 2 ^ 32 → AllSmall (xs ++ x ∷ [])
    all_after [] x all one = (one, tt)
    all_after (y ∷ ys) x all one = (all.0, all_after ys x all.1 one)

    moved : (found : Option ℕ) (xs ys : List ℕ) → (xs ++ option_to_list found) ++ ys ≡ xs ++ cons_option found ys
    moved None xs ys = ap (λ zs. zs ++ ys) (append-nil xs)
    moved (Some n) xs ys = append_assoc xs (n ∷ []) ys

-- all were looked up
pub all_looked_up : (first last low high i : ℕ) (f : ℕ → Option ℕ) (found items ids : List ℕ) → low ≡ first → high ≡ last → items ≡ ids → first < 2 ^ 32 → length items ≤ i
    → ((q : ℕ) → q < 2 ^ 32 → has q ids ≡ (in_range low high q && is_some (f q))) → IsRising low ids
    → (found ++ filter_map f (drop i items) ≡ filter_map f items) × AllSmall (take i items)
    → found ≡ filter_map f (ids_of first last)
all_looked_up first last low high i f found items ids is_low is_high same small all exact rises so_far =
    sym (append-nil found) ∙ sym (at_drop_all (λ xs. found ++ filter_map f xs) items i all) ∙ so_far.0 ∙ ap (filter_map f) same
    ∙ listed first last f ids small (λ q s. exact q s ∙ ap (λ x. in_range x high q && is_some (f q)) is_low ∙ ap (λ x. in_range first x q && is_some (f q)) is_high)
    (subst (λ x. IsRising x ids) is_low rises) (subst AllSmall (take_all i items all ∙ same) so_far.1)
