-- Numbers by place.
use Rattle.std.proofs.Common.{◌≡◌, ◌∙◌, ◌<◌, ◌≤◌, ◌^◌, ◌++◌, ℕ, Bool, true, false, refl, sym, ap, arith, cond, List, [], ◌∷◌, length, Option, Some, None}
use Rattle.std.specs.Prelude.{◌&&◌, ◌||◌, ◌==◌, not, nat_lt, nat_le, if◌then◌else◌}
use Rattle.std.specs.List.{filter, list_any}
use Rattle.std.specs.Ordering.{nat_cmp, ordering_then, is_eq, is_le, is_lt}
use Rattle.std.specs.declared.cmp.Ordering.{Ordering}
use Rattle.std.specs.declared.cmp.Ordering.TheVariants.{Less, Equal, Greater}
use Rattle.std.specs.declared.ops.Bound.TheVariants.{Included}
use Rattle.std.specs.BTreeMap.{is_at}
use Rattle.std.specs.BTreeMap.Range.{range_contains}
use Rattle.std.specs.BTreeSet.{keys_between}
use Rattle.std.proofs.lemmas.Bool.{eqb-true, leb-true}
use Rattle.std.proofs.lemmas.Bool.Decides.{nat_tests}
use Rattle.std.proofs.lemmas.List.Folds.{list_any-append}
use Rattle.amqp_session.specs.Serials.{distance}
use Rattle.amqp_session.specs.Ranges.{has, in_range}
use Rattle.state_deliveries.specs.declared.spots.Spot.{Spot}
use Rattle.state_deliveries.specs.declared.spots.Spots.{Spots}
use Rattle.state_deliveries.specs.Placing.{Key, key, key_cmp, numbers_of, stands, is_spot, IsSmall, SpotsFit, IsWithin, is_id_there}

pub both_first : (a b : Bool) → (a && b) ≡ true → a ≡ true
both_first true b e = refl
both_first false b e = e

pub both_second : (a b : Bool) → (a && b) ≡ true → b ≡ true
both_second true b e = e
both_second false b e = absurd cc

or_right : (a b : Bool) → b ≡ true → (a || b) ≡ true
or_right true b e = refl
or_right false b e = e

pub either_of : {P : Type 0} (a b : Bool) → (a ≡ true → P) → (b ≡ true → P) → (a || b) ≡ true → P
either_of true b f g e = f e
either_of false b f g e = g e

pub same_number : (n : ℕ) → (n == n) ≡ true
same_number n = grind (arith, nat_tests)

same_test : (a b : ℕ) → is_eq (nat_cmp a b) ≡ (a == b)
same_test a b = grind (arith, nat_tests)

eq_then : (p q : Ordering) → is_eq (ordering_then p q) ≡ (is_eq p && is_eq q)
eq_then Less q = refl
eq_then Equal q = refl
eq_then Greater q = refl

-- the test by which a key is found
key_test : (k x : Key) → is_at (key_cmp k) x ≡ ((((k.0 == x.0) && (k.1 == x.1)) && (k.2 == x.2)) && (k.3 == x.3))
key_test k x =
    eq_then (ordering_then (ordering_then (nat_cmp k.0 x.0) (nat_cmp k.1 x.1)) (nat_cmp k.2 x.2)) (nat_cmp k.3 x.3)
    ∙ ap (λ b. b && is_eq (nat_cmp k.3 x.3)) (eq_then (ordering_then (nat_cmp k.0 x.0) (nat_cmp k.1 x.1)) (nat_cmp k.2 x.2)
    ∙ ap (λ b. b && is_eq (nat_cmp k.2 x.2)) (eq_then (nat_cmp k.0 x.0) (nat_cmp k.1 x.1)
    ∙ ap (λ b. b && is_eq (nat_cmp k.1 x.1)) (same_test k.0 x.0) ∙ ap (λ b. (k.0 == x.0) && b) (same_test k.1 x.1))
    ∙ ap (λ b. ((k.0 == x.0) && (k.1 == x.1)) && b) (same_test k.2 x.2))
    ∙ ap (λ b. (((k.0 == x.0) && (k.1 == x.1)) && (k.2 == x.2)) && b) (same_test k.3 x.3)

-- where nothing stands, no number has a place
pub nowhere_at : (s : Spots) (known : ℕ → Option Spot) → SpotsFit s known → length s.keys.keys ≡ 0 → (n : ℕ) → known n ≡ None
nowhere_at s known fit empty n = by_spot (known n) refl
  where
    none_of : (ks : List Key) (k : Key) → length ks ≡ 0 → list_any (is_at (key_cmp k)) ks ≡ false
    none_of [] k e = refl
    none_of (x ∷ ks) k e = absurd (omega (arith, e))

    same : (p : Spot) → is_spot (Some p) p ≡ true
    same p = rw (same_number p.conn, same_number p.own, same_number p.at) refl

    by_spot : (v : Option Spot) → known n ≡ v → v ≡ None
    by_spot None e = refl
    by_spot (Some p) e =
        let wrong : true ≡ false = sym (fit.stand p n ∙ ap (λ v. is_spot v p) e ∙ same p) ∙ none_of s.keys.keys (key p n) empty in
        absurd cc

-- the same known places, by an equal function
pub fits_same : (s : Spots) (f g : ℕ → Option Spot) → ((n : ℕ) → f n ≡ g n) → SpotsFit s f → SpotsFit s g
fits_same s f g same x = record { stand = λ p n. x.stand p n ∙ ap (λ v. is_spot v p) (same n); small = x.small }

-- a number moves
pub stand_moved : (s t u : Spot → ℕ → Bool) (m : ℕ) (before after : Option Spot) (known : ℕ → Option Spot)
    → ((p : Spot) (n : ℕ) → t p n ≡ (if is_spot before p then (if m == n then false else s p n) else s p n))
    → ((p : Spot) (n : ℕ) → u p n ≡ (if is_spot after p then (if m == n then true else t p n) else t p n))
    → known m ≡ before → ((p : Spot) (n : ℕ) → s p n ≡ is_spot (known n) p) → (p : Spot) (n : ℕ) → u p n ≡ is_spot (if m == n then after else known n) p
stand_moved s t u m before after known out back is x = λ p n. by_test p n (m == n) refl
  where
    gone : (i o : Bool) → o ≡ i → (if i then (if true then false else o) else o) ≡ false
    gone true o f = refl
    gone false o f = f

    comes : (i t : Bool) → t ≡ false → (if i then (if true then true else t) else t) ≡ i
    comes true t f = refl
    comes false t f = f

    stays : (i b o : Bool) → (if i then (if false then b else o) else o) ≡ o
    stays true b o = refl
    stays false b o = refl

    by_test : (p : Spot) (n : ℕ) (b : Bool) → (m == n) ≡ b → u p n ≡ is_spot (if b then after else known n) p
    by_test p n true f =
        let old : s p n ≡ is_spot before p = x p n ∙ ap (λ v. is_spot v p) (ap known (sym (eqb-true m n f)) ∙ is) in
        let middle : t p n ≡ false = out p n ∙ ap (λ e. if is_spot before p then (if e then false else s p n) else s p n) f ∙ gone (is_spot before p) (s p n) old in
        back p n ∙ ap (λ e. if is_spot after p then (if e then true else t p n) else t p n) f ∙ comes (is_spot after p) (t p n) middle
    by_test p n false f =
        back p n ∙ ap (λ e. if is_spot after p then (if e then true else t p n) else t p n) f ∙ stays (is_spot after p) true (t p n)
        ∙ out p n ∙ ap (λ e. if is_spot before p then (if e then false else s p n) else s p n) f ∙ stays (is_spot before p) false (s p n)
        ∙ x p n

-- what stands after a number was taken out stood before
pub stood : (s t : Spot → ℕ → Bool) (m : ℕ) (before : Option Spot)
    → ((p : Spot) (n : ℕ) → t p n ≡ (if is_spot before p then (if m == n then false else s p n) else s p n))
    → (p : Spot) (n : ℕ) → t p n ≡ true → s p n ≡ true
stood s t m before out p n there = was (is_spot before p) (m == n) (s p n) (sym (out p n) ∙ there)
  where
    was : (i e o : Bool) → (if i then (if e then false else o) else o) ≡ true → o ≡ true
    was true true o f = absurd cc
    was true false o f = f
    was false e o f = f

pub fits_moved : (s t u : Spots) (m : ℕ) (before after : Option Spot) (known : ℕ → Option Spot)
    → ((p : Spot) (n : ℕ) → stands t p n ≡ (if is_spot before p then (if m == n then false else stands s p n) else stands s p n))
    → ((p : Spot) (n : ℕ) → stands u p n ≡ (if is_spot after p then (if m == n then true else stands t p n) else stands t p n))
    → ((p : Spot) (n : ℕ) → (stands t p n ≡ true → IsSmall p n) → stands u p n ≡ true → IsSmall p n)
    → known m ≡ before → SpotsFit s known → SpotsFit u (λ n. if m == n then after else known n)
fits_moved s t u m before after known out back small is x = record {
  stand = stand_moved (stands s) (stands t) (stands u) m before after known out back is x.stand;
  small = λ p n now. small p n (λ there. x.small p n (stood (stands s) (stands t) m before out p n there)) now;
}

-- keys between two
le_then : (p q : Ordering) → is_le p ≡ true → is_le q ≡ true → is_le (ordering_then p q) ≡ true
le_then Less q e f = refl
le_then Equal q e f = f
le_then Greater q e f = e

not_lt_then : (p q : Ordering) → not (is_lt p) ≡ true → not (is_lt q) ≡ true → not (is_lt (ordering_then p q)) ≡ true
not_lt_then Less q e f = e
not_lt_then Equal q e f = f
not_lt_then Greater q e f = refl

up : (a b : ℕ) → a ≤ b → is_le (nat_cmp a b) ≡ true
up a b h = grind arith

down : (a b : ℕ) → b ≤ a → not (is_lt (nat_cmp a b)) ≡ true
down a b h = grind arith

abbrev top : ℕ
top = 18446744073709551615

abbrev between : Spot → Spot → Key → Bool
between low high = range_contains key_cmp (Included (key low 0)) (Included (key high top))

is_between : (low high p : Spot) (n : ℕ) → n < 2 ^ 64 → IsWithin low high p → between low high (key p n) ≡ true
is_between low high p n small x = and_true (is_le (key_cmp (key low 0) (key p n))) (not (is_lt (key_cmp (key high top) (key p n))))
    (le_then (ordering_then (ordering_then (nat_cmp low.conn p.conn) (nat_cmp low.own p.own)) (nat_cmp low.at p.at)) (nat_cmp 0 n)
    (le_then (ordering_then (nat_cmp low.conn p.conn) (nat_cmp low.own p.own)) (nat_cmp low.at p.at)
    (le_then (nat_cmp low.conn p.conn) (nat_cmp low.own p.own) (up low.conn p.conn x.conn_from) (up low.own p.own x.own_from)) (up low.at p.at x.at_from))
    (up 0 n (omega arith)))
    (not_lt_then (ordering_then (ordering_then (nat_cmp high.conn p.conn) (nat_cmp high.own p.own)) (nat_cmp high.at p.at)) (nat_cmp top n)
    (not_lt_then (ordering_then (nat_cmp high.conn p.conn) (nat_cmp high.own p.own)) (nat_cmp high.at p.at)
    (not_lt_then (nat_cmp high.conn p.conn) (nat_cmp high.own p.own) (down high.conn p.conn x.conn_to) (down high.own p.own x.own_to)) (down high.at p.at x.at_to))
    (down top n (omega (arith, small))))
  where
    and_true : (a b : Bool) → a ≡ true → b ≡ true → (a && b) ≡ true
    and_true true b e f = f
    and_true false b e f = e

-- a key of a list that passes a test
same_key : (k x : Key) → is_at (key_cmp k) x ≡ true → k ≡ x
same_key k x e =
    let all = sym (key_test k x) ∙ e in
    let three = both_first (((k.0 == x.0) && (k.1 == x.1)) && (k.2 == x.2)) (k.3 == x.3) all in
    let two = both_first ((k.0 == x.0) && (k.1 == x.1)) (k.2 == x.2) three in
    λ i. (
      eqb-true k.0 x.0 (both_first (k.0 == x.0) (k.1 == x.1) two) i,
      eqb-true k.1 x.1 (both_second (k.0 == x.0) (k.1 == x.1) two) i,
      eqb-true k.2 x.2 (both_second ((k.0 == x.0) && (k.1 == x.1)) (k.2 == x.2) three) i,
      eqb-true k.3 x.3 (both_second (((k.0 == x.0) && (k.1 == x.1)) && (k.2 == x.2)) (k.3 == x.3) all) i,
    )

listed : (test : Key → Bool) (ks : List Key) (k : Key) → list_any (is_at (key_cmp k)) ks ≡ true → test k ≡ true → has k.3 (numbers_of (filter test ks)) ≡ true
listed test [] k e t = e
listed test (x ∷ xs) k e t = by_test (is_at (key_cmp k) x) refl e (λ f. listed test xs k f t)
  where
    here : (b : Bool) → b ≡ true → k.3 ≡ x.3 → has k.3 (numbers_of (cond b (x ∷ filter test xs) (filter test xs))) ≡ true
    here true f same = ap (λ n. (n == x.3) || has n (numbers_of (filter test xs))) same ∙ ap (λ b. b || has x.3 (numbers_of (filter test xs))) (same_number x.3)
    here false f same = absurd cc

    further : (b : Bool) → has k.3 (numbers_of (filter test xs)) ≡ true → has k.3 (numbers_of (cond b (x ∷ filter test xs) (filter test xs))) ≡ true
    further true f = or_right (k.3 == x.3) (has k.3 (numbers_of (filter test xs))) f
    further false f = f

    by_test : (b : Bool) → is_at (key_cmp k) x ≡ b → (is_at (key_cmp k) x || list_any (is_at (key_cmp k)) xs) ≡ true
        → (list_any (is_at (key_cmp k)) xs ≡ true → has k.3 (numbers_of (filter test xs)) ≡ true)
        → has k.3 (numbers_of (cond (test x) (x ∷ filter test xs) (filter test xs))) ≡ true
    by_test true f g rest = let same = same_key k x f in here (test x) (ap test (sym same) ∙ t) (ap (λ (j : Key). j.3) same)
    by_test false f g rest = further (test x) (rest (ap (λ b. b || list_any (is_at (key_cmp k)) xs) (sym f) ∙ g))

stands_there : (s : Spots) (known : ℕ → Option Spot) → SpotsFit s known → (p : Spot) (n : ℕ) → known n ≡ Some p → stands s p n ≡ true
stands_there s known x p n is = x.stand p n ∙ ap (λ v. is_spot v p) is ∙ all_same (p.conn == p.conn) (p.own == p.own) (p.at == p.at) (same_number p.conn) (same_number p.own) (same_number p.at)
  where
    all_same : (a b d : Bool) → a ≡ true → b ≡ true → d ≡ true → (a && (b && d)) ≡ true
    all_same true true d e f g = g
    all_same true false d e f g = f
    all_same false b d e f g = e

small_there : (s : Spots) (known : ℕ → Option Spot) → SpotsFit s known → (p : Spot) (n : ℕ) → known n ≡ Some p → IsSmall p n
small_there s known x p n is = x.small p n (stands_there s known x p n is)

pub found_between : (s : Spots) (low high : Spot) (old new : List ℕ) → new ≡ old ++ numbers_of (keys_between key_cmp (Included (key low 0)) (Included (key high top)) s.keys)
    → (known : ℕ → Option Spot) → SpotsFit s known → (p : Spot) (n : ℕ) → known n ≡ Some p → IsWithin low high p → has n new ≡ true
found_between s low high old new is known x p n there within =
    ap (has n) is ∙ list_any-append (λ k. n == k) old (numbers_of (filter (between low high) s.keys.keys))
    ∙ or_right (has n old) (has n (numbers_of (filter (between low high) s.keys.keys)))
    (listed (between low high) s.keys.keys (key p n) (stands_there s known x p n there)
    (is_between low high p n (small_there s known x p n there).number within))

-- ids of a range
at_most : (a b : ℕ) → nat_le a b ≡ true → a ≤ b
at_most a b e = leb-true a b e

beyond : (a b : ℕ) → nat_le a b ≡ false → b < a
beyond a b e = grind arith

pub no_further : (first last id : ℕ) → in_range first last id ≡ true → distance first id ≤ distance first last
no_further first last id e = at_most (distance first id) (distance first last) (both_second (nat_lt (distance first last) (2 ^ 31)) (nat_le (distance first id) (distance first last)) e)

straight : (first last id : ℕ) → first ≤ last → last < 2 ^ 32 → id < 2 ^ 32 → distance first id ≤ distance first last → (first ≤ id) × (id ≤ last)
straight first last id o s i h = (grind arith, grind arith)

wrapped : (first last id : ℕ) → last < first → first < 2 ^ 32 → id < first → distance first id ≤ distance first last → id ≤ last
wrapped first last id o s i h = grind arith

pub found_straight : (s : Spots) (c o first last : ℕ) (new : List ℕ) (known : ℕ → Option Spot) → SpotsFit s known → first ≤ last → last < 2 ^ 32
    → ((p : Spot) (n : ℕ) → known n ≡ Some p → p.conn ≡ c → p.own ≡ o → first ≤ p.at → p.at ≤ last → has n new ≡ true)
    → (n : ℕ) → is_id_there c o first last (known n) ≡ true → has n new ≡ true
found_straight s c o first last new known x order small found n there = by_place (known n) refl there
  where
    by_place : (v : Option Spot) → known n ≡ v → is_id_there c o first last v ≡ true → has n new ≡ true
    by_place None e f = absurd cc
    by_place (Some p) e f =
        let on = both_first ((p.conn == c) && (p.own == o)) (in_range first last p.at) f in
        let is = straight first last p.at order small (small_there s known x p n e).at (no_further first last p.at (both_second ((p.conn == c) && (p.own == o)) (in_range first last p.at) f)) in
        found p n e (eqb-true p.conn c (both_first (p.conn == c) (p.own == o) on)) (eqb-true p.own o (both_second (p.conn == c) (p.own == o) on)) is.0 is.1

pub found_wrapped : (s : Spots) (c o first last : ℕ) (middle new : List ℕ) (known : ℕ → Option Spot) → SpotsFit s known → last < first → first < 2 ^ 32
    → ((p : Spot) (n : ℕ) → known n ≡ Some p → p.conn ≡ c → p.own ≡ o → first ≤ p.at → p.at ≤ 4294967295 → has n middle ≡ true)
    → ((n : ℕ) → has n middle ≡ true → has n new ≡ true)
    → ((p : Spot) (n : ℕ) → known n ≡ Some p → p.conn ≡ c → p.own ≡ o → 0 ≤ p.at → p.at ≤ last → has n new ≡ true)
    → (n : ℕ) → is_id_there c o first last (known n) ≡ true → has n new ≡ true
found_wrapped s c o first last middle new known x order small high more low n there = by_place (known n) refl there
  where
    by_test : (p : Spot) (b : Bool) → nat_le first p.at ≡ b → known n ≡ Some p → p.conn ≡ c → p.own ≡ o → in_range first last p.at ≡ true → has n new ≡ true
    by_test p true t e on own f =
        let at : p.at < 2 ^ 32 = (small_there s known x p n e).at in
        more n (high p n e on own (at_most first p.at t) (omega (arith, at)))
    by_test p false t e on own f = low p n e on own (omega arith) (wrapped first last p.at order small (beyond first p.at t) (no_further first last p.at f))

    by_place : (v : Option Spot) → known n ≡ v → is_id_there c o first last v ≡ true → has n new ≡ true
    by_place None e f = absurd cc
    by_place (Some p) e f =
        let on = both_first ((p.conn == c) && (p.own == o)) (in_range first last p.at) f in
        by_test p (nat_le first p.at) refl e (eqb-true p.conn c (both_first (p.conn == c) (p.own == o) on)) (eqb-true p.own o (both_second (p.conn == c) (p.own == o) on))
        (both_second ((p.conn == c) && (p.own == o)) (in_range first last p.at) f)
