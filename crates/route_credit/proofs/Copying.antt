-- The consumers with free credit, one after another.
use Rattle.std.proofs.Common.{◌≡◌, ◌∙◌, sym, ap, refl, ℕ, suc, Bool, true, false, cond, ◌&&◌, ◌<◌, ◌≤◌, ⊎_elim, Option, Some, None, List, [], ◌∷◌, ◌++◌, arith}
use Rattle.std.specs.Prelude.{◌==◌, filter, map, nat_le, nat_lt, option_and_then}
use Rattle.std.specs.List.Sorted.{IsStrictlySortedBy}
use Rattle.std.specs.Map.{keys_of}
use Rattle.std.proofs.lemmas.Bool.{cases_order, eq-eqb, eqb-true, le-leb, leb-true, lt-ltb, ltb-true}
use Rattle.route_credit.specs.Links.{link_at, IsLeast}
use Rattle.route_credit.specs.Pool.{copies_by}
use Rattle.route_credit.specs.Ranks.{behind, offer_rank, rank_at}
use Rattle.route_credit.specs.declared.ids.ConsumerId.{ConsumerId}
use Rattle.route_credit.specs.declared.offer.Offer.{Offer}
use Rattle.route_table.specs.declared.sections.Distribution.TheVariants.{Multicast}
use Rattle.route_credit.proofs.Choices.{flat_copies}
use Rattle.route_credit.proofs.Entries.{Above, after_first, here, InOrder, is_less, none_above, none_below}
use Rattle.route_credit.proofs.Moved.{by_test}

none_some : {P : Type 0} (m : ℕ) → None ≡ Some m → P
none_some m h = absurd cc

abbrev rank : List (ℕ × Offer) → ℕ → Option ℕ
rank links id = rank_at (offer_rank Multicast) links id

-- those with free credit whose number isn't below this one
abbrev pub free_from : ℕ → List (ℕ × Offer) → List ℕ
free_from n links = keys_of (filter (λ consumer. nat_le n consumer.0 && nat_lt 0 consumer.1.free) links)

-- what is left where this one is next
abbrev pub rest : Option ℕ → List (ℕ × Offer) → List ℕ
rest None links = []
rest (Some id) links = id ∷ free_from (suc id) links

free_is : (offer : Offer) (m : ℕ) → offer_rank Multicast offer ≡ Some m → nat_lt 0 offer.free ≡ true
free_is offer m is = by_test (nat_lt 0 offer.free) (λ e. e) (λ e. none_some m (rw e at is))

rank_here : (e : ℕ × Offer) (es : List (ℕ × Offer)) → nat_lt 0 e.1.free ≡ true → rank (e ∷ es) e.0 ≡ Some 0
rank_here e es free = ap (option_and_then (offer_rank Multicast)) (here e es) ∙ rw free refl

rank_after : (e : ℕ × Offer) (es : List (ℕ × Offer)) (q : ℕ) → (q ≡ e.0 → ⊥) → rank (e ∷ es) q ≡ rank es q
rank_after e es q other = ap (option_and_then (offer_rank Multicast)) (after_first e es q other)

-- the first link counts, or not
counted : (n : ℕ) (e : ℕ × Offer) (es : List (ℕ × Offer)) → nat_le n e.0 ≡ true → nat_lt 0 e.1.free ≡ true → free_from n (e ∷ es) ≡ e.0 ∷ free_from n es
counted n e es above free = ap (λ b. keys_of (cond b (e ∷ filter (λ consumer. nat_le n consumer.0 && nat_lt 0 consumer.1.free) es) (filter (λ consumer. nat_le n consumer.0 && nat_lt 0 consumer.1.free) es))) both
  where
    both : (nat_le n e.0 && nat_lt 0 e.1.free) ≡ true
    both = rw (above, free) refl

passed : (n : ℕ) (e : ℕ × Offer) (es : List (ℕ × Offer)) → (nat_le n e.0 && nat_lt 0 e.1.free) ≡ false → free_from n (e ∷ es) ≡ free_from n es
passed n e es not = ap (λ b. keys_of (cond b (e ∷ filter (λ consumer. nat_le n consumer.0 && nat_lt 0 consumer.1.free) es) (filter (λ consumer. nat_le n consumer.0 && nat_lt 0 consumer.1.free) es))) not

not_above : (n m : ℕ) (b : Bool) → m < n → (nat_le n m && b) ≡ false
not_above n m b l = by_test (nat_le n m) (λ e. let k : n ≤ m = leb-true n m e in absurd (omega (arith, l, k))) (λ e. rw e refl)

-- where all numbers are above one, it makes no difference from which below they count
same_from : (n m k : ℕ) (es : List (ℕ × Offer)) → Above k (keys_of es) → n ≤ suc k → m ≤ suc k → free_from n es ≡ free_from m es
same_from n m k [] all one two = refl
same_from n m k (e ∷ es) all one two = by_test (nat_lt 0 e.1.free)
    (λ f. counted n e es (low n one) f ∙ ap (λ ids. e.0 ∷ ids) (same_from n m k es all.1 one two) ∙ sym (counted m e es (low m two) f))
    (λ f. passed n e es (none (nat_le n e.0) f) ∙ same_from n m k es all.1 one two ∙ sym (passed m e es (none (nat_le m e.0) f)))
  where
    low : (x : ℕ) → x ≤ suc k → nat_le x e.0 ≡ true
    low x l = let a : k < e.0 = is_less k e.0 all.0 in le-leb x e.0 (omega (arith, l, a))

    none : (b : Bool) → nat_lt 0 e.1.free ≡ false → (b && nat_lt 0 e.1.free) ≡ false
    none true f = f
    none false f = refl

-- from 0 on, all with free credit count
all_from : (links : List (ℕ × Offer)) → free_from 0 links ≡ copies_by Multicast links
all_from [] = refl
all_from (e ∷ es) = by_free (nat_lt 0 e.1.free) refl (all_from es)
  where
    by_free : (b : Bool) → nat_lt 0 e.1.free ≡ b → free_from 0 es ≡ copies_by Multicast es
        → free_from 0 (e ∷ es) ≡ keys_of (cond b (e ∷ filter (λ consumer. nat_lt 0 consumer.1.free) es) (filter (λ consumer. nat_lt 0 consumer.1.free) es))
    by_free true is rest = counted 0 e es (le-leb 0 e.0 (omega arith)) is ∙ ap (λ ids. e.0 ∷ ids) rest
    by_free false is rest = passed 0 e es none ∙ rest
      where
        none : (nat_le 0 e.0 && nat_lt 0 e.1.free) ≡ false
        none = rw (le-leb 0 e.0 (omega arith), is) refl

-- nobody is left
none_from : (n : ℕ) (links : List (ℕ × Offer)) → InOrder links → ((q : ℕ) → n ≤ q → rank links q ≡ None) → free_from n links ≡ []
unfolding IsStrictlySortedBy
none_from n [] ordered none = refl
none_from n (e ∷ es) ordered none = passed n e es head ∙ none_from n es ordered.1 tail
  where
    head : (nat_le n e.0 && nat_lt 0 e.1.free) ≡ false
    head = by_test (nat_le n e.0)
        (λ a. by_test (nat_lt 0 e.1.free) (λ f. none_some 0 (sym (none e.0 (leb-true n e.0 a)) ∙ rank_here e es f)) (λ f. rw (a, f) refl))
        (λ a. rw a refl)

    tail : (q : ℕ) → n ≤ q → rank es q ≡ None
    tail q l = by_test (q == e.0)
        (λ s. ap (option_and_then (offer_rank Multicast)) (ap (link_at es) (eqb-true q e.0 s) ∙ none_above es e.0 ordered.0))
        (λ s. sym (rank_after e es q (λ is. no (sym s ∙ ap (λ k. k == e.0) is ∙ same e.0))) ∙ none q l)
      where
        no : false ≡ true → ⊥
        no h = cc

        same : (k : ℕ) → (k == k) ≡ true
        same k = eq-eqb k k refl

-- one is next
next_from : (n id : ℕ) (links : List (ℕ × Offer)) → InOrder links → n ≤ id → rank links id ≡ Some 0 → ((q : ℕ) → n ≤ q → rank links q ≡ Some 0 → id ≤ q) → free_from n links ≡ id ∷ free_from (suc id) links
unfolding IsStrictlySortedBy
next_from n id [] ordered low is least = none_some 0 is
next_from n id (e ∷ es) ordered low is least = ⊎_elim here_it (λ cases. ⊎_elim (later (next_from n id es ordered.1 low)) (λ below. none_some 0 (sym (ap (option_and_then (offer_rank Multicast)) (none_below e es id ordered below)) ∙ is)) cases) (cases_order e.0 id)
  where
    here_it : e.0 ≡ id → free_from n (e ∷ es) ≡ id ∷ free_from (suc id) (e ∷ es)
    here_it same =
        let free : nat_lt 0 e.1.free ≡ true = free_is e.1 0 (sym (ap (option_and_then (offer_rank Multicast)) (here e es)) ∙ ap (rank (e ∷ es)) same ∙ is) in
        counted n e es (le-leb n e.0 (omega (arith, low, same))) free
        ∙ ap (λ ids. e.0 ∷ ids) (same_from n (suc id) e.0 es ordered.0 (omega (arith, low, same)) (omega (arith, same)))
        ∙ ap (λ k. k ∷ free_from (suc id) es) same
        ∙ ap (λ ids. id ∷ ids) (sym (passed (suc id) e es (not_above (suc id) e.0 (nat_lt 0 e.1.free) (omega (arith, same)))))

    later : (rank es id ≡ Some 0 → ((q : ℕ) → n ≤ q → rank es q ≡ Some 0 → id ≤ q) → free_from n es ≡ id ∷ free_from (suc id) es) → e.0 < id → free_from n (e ∷ es) ≡ id ∷ free_from (suc id) (e ∷ es)
    later rest below =
        passed n e es head ∙ rest there first
        ∙ ap (λ ids. id ∷ ids) (sym (passed (suc id) e es (not_above (suc id) e.0 (nat_lt 0 e.1.free) (omega (arith, below)))))
      where
        head : (nat_le n e.0 && nat_lt 0 e.1.free) ≡ false
        head = by_test (nat_le n e.0)
            (λ a. by_test (nat_lt 0 e.1.free) (λ f. let l : id ≤ e.0 = least e.0 (leb-true n e.0 a) (rank_here e es f) in absurd (omega (arith, l, below))) (λ f. rw (a, f) refl))
            (λ a. rw a refl)

        there : rank es id ≡ Some 0
        there = sym (rank_after e es id (λ same. absurd (omega (arith, same, below)))) ∙ is

        first : (q : ℕ) → n ≤ q → rank es q ≡ Some 0 → id ≤ q
        first q l found = by_test (q == e.0)
            (λ s. none_some 0 (sym (ap (option_and_then (offer_rank Multicast)) (ap (link_at es) (eqb-true q e.0 s) ∙ none_above es e.0 ordered.0)) ∙ found))
            (λ s. least q l (rank_after e es q (λ k. no (sym s ∙ ap (λ i. i == e.0) k ∙ same e.0)) ∙ found))
          where
            no : false ≡ true → ⊥
            no h = cc

            same : (k : ℕ) → (k == k) ≡ true
            same k = eq-eqb k k refl

flat : (links : List (ℕ × Offer)) (other m : ℕ) → rank links other ≡ Some m → m ≡ 0
flat links = flat_copies Multicast links refl

-- before the first all are left
pub rest_first : (links : List (ℕ × Offer)) (first : Option ℕ) → InOrder links → IsLeast (rank links) first → rest first links ≡ copies_by Multicast links
rest_first links None ordered none = sym (none_from 0 links ordered (λ q l. none q)) ∙ all_from links
rest_first links (Some id) ordered least =
    sym (next_from 0 id links ordered (omega arith) (least.1 ∙ ap Some (flat links id least.0 least.1)) (λ q l found. ⊎_elim (λ below. absurd (omega (arith, below))) (λ same. same.1) (least.2 q 0 found))) ∙ all_from links

-- and after one those after it
pub rest_after : (links : List (ℕ × Offer)) (id : ℕ) (next : Option ℕ) → InOrder links → IsLeast (behind id (rank links)) next → rest (Some id) links ≡ id ∷ rest next links
rest_after links id None ordered none = ap (λ ids. id ∷ ids) (none_from (suc id) links ordered (λ q l. let t : nat_lt id q ≡ true = lt-ltb id q (omega (arith, l)) in sym (ap (λ b. cond b (rank links q) None) t) ∙ none q))
rest_after links id (Some after) ordered least =
    ap (λ ids. id ∷ ids) (next_from (suc id) after links ordered above (there ∙ ap Some (flat links after least.0 there))
    (λ q l found. let t : nat_lt id q ≡ true = lt-ltb id q (omega (arith, l)) in
    ⊎_elim (λ below. absurd (omega (arith, below))) (λ same. same.1) (least.2 q 0 (ap (λ b. cond b (rank links q) None) t ∙ found))))
  where
    above : suc id ≤ after
    above = by_test (nat_lt id after) (λ e. let l : id < after = ltb-true id after e in omega (arith, l)) (λ e. none_some least.0 (rw e at least.1))

    there : rank links after ≡ Some least.0
    there = by_test (nat_lt id after) (λ e. rw e at least.1) (λ e. none_some least.0 (rw e at least.1))

-- one more is listed
pub listed_more : (before : List ConsumerId) (id : ℕ) (ids all : List ℕ) → map (λ c. c.0) before ++ id ∷ ids ≡ all → map (λ c. c.0) (before ++ record { 0 = id } ∷ []) ++ ids ≡ all
listed_more [] id ids all is = is
listed_more (c ∷ before) id ids all is = ap (λ rest. c.0 ∷ rest) (listed_more before id ids (map (λ c. c.0) before ++ id ∷ ids) refl) ∙ is

pub listed_all : (before : List ConsumerId) (all : List ℕ) → map (λ c. c.0) before ++ [] ≡ all → map (λ c. c.0) before ≡ all
listed_all before all is = sym (nothing_after (map (λ c. c.0) before)) ∙ is
  where
    nothing_after : (ids : List ℕ) → ids ++ [] ≡ ids
    nothing_after [] = refl
    nothing_after (i ∷ is) = ap (λ rest. i ∷ rest) (nothing_after is)

-- what is no link is none
pub none_is : (x : Option ℕ) → ((id : ℕ) → x ≡ Some id → ⊥) → x ≡ None
none_is None not = refl
none_is (Some id) not = absurd (not id refl)
