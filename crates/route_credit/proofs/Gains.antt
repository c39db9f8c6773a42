-- The sums of all grants.
use Rattle.std.proofs.Common.{◌≡◌, ◌∙◌, sym, ap, refl, subst, ℕ, zero, suc, Bool, true, false, cond, ◌&&◌, ◌+◌, ◌<◌, ◌⊎◌, ⊎_elim, Option, Some, None, Result, Ok, Err, OnOk, List, [], ◌∷◌, arith}
use Rattle.std.specs.Prelude.{◌==◌, nat_lt, is_some, if◌then◌else◌}
use Rattle.std.specs.BTreeMap.{is_at}
use Rattle.std.specs.List.{list_any}
use Rattle.std.specs.List.Sorted.{IsStrictlySortedBy}
use Rattle.std.specs.Map.{keys_of}
use Rattle.std.specs.Ordering.{nat_cmp}
use Rattle.std.proofs.lemmas.Bool.{eqb-true, lt-ltb}
use Rattle.std.proofs.lemmas.Map.Made.{is_some-lookup}
use Rattle.route_credit.specs.Giving.{IsGiving}
use Rattle.route_credit.specs.Granting.{all_granted, gain, gains, granting, granted, given_to, grants_of, least, next, room}
use Rattle.route_credit.specs.Links.{amount_at, link_at}
use Rattle.route_credit.specs.Pool.{given, is_short, IsNext, unused_at, need, part_of, Sharing, short_by}
use Rattle.route_table.specs.declared.sections.Distribution.{Distribution}
use Rattle.route_table.specs.declared.sections.Distribution.TheVariants.{Balanced, Closest}
use Rattle.route_credit.specs.declared.demand.Demand.{Demand}
use Rattle.route_credit.proofs.Entries.{Above, InOrder, keys_with, same_entries}
use Rattle.route_credit.proofs.Grants.{all_done, all_keys, kept_by_all, none_granted, one_of_all}
use Rattle.route_credit.proofs.Indices.{same_test}
use Rattle.route_credit.proofs.Leasts.{next_is}
use Rattle.route_credit.proofs.Moved.{by_test}
use Rattle.route_credit.proofs.Steps.{InNeed, next_needs}

none_some : {P : Type 0} {X : Type 0} (x : X) → None ≡ Some x → P
none_some x h = absurd cc

-- one grant of all
pub all_more : (old now after : Sharing) (id : ℕ) → all_granted now ≡ all_granted old → InOrder now.producers → IsNext now (Some id)
    → ((demand : Demand) → link_at now.producers id ≡ Some demand → after ≡ given now id demand) → all_granted after ≡ all_granted old
all_more old now after id all ordered first gives =
    let need : InNeed now.distribution (link_at now.producers id) = next_needs now id first in
    ap all_granted (gives need.demand need.there) ∙ one_of_all now id need.demand ordered (sym (next_is now (Some id) ordered first)) need.there ∙ all

pub keys_more : (old now after : Sharing) (id : ℕ) → keys_of now.producers ≡ keys_of old.producers → InOrder now.producers → IsNext now (Some id)
    → ((demand : Demand) → link_at now.producers id ≡ Some demand → after ≡ given now id demand) → keys_of after.producers ≡ keys_of old.producers
keys_more old now after id same ordered first gives =
    let need : InNeed now.distribution (link_at now.producers id) = next_needs now id first in
    ap (λ p. keys_of p.producers) (gives need.demand need.there)
    ∙ keys_with now.producers id (record need.demand { unused = need.demand.unused + part_of now.distribution need.demand }) need.demand ordered need.there ∙ same

-- what is found in the sums of some links
gains_at : (amount : ℕ → ℕ) (ids : List ℕ) (q : ℕ) → link_at (gains amount ids) q ≡ cond (list_any (is_at (nat_cmp q)) ids && nat_lt 0 (amount q)) (Some (amount q)) None
gains_at amount [] q = refl
gains_at amount (i ∷ is) q = by_test (q == i) (here (gains_at amount is q)) (there (gains_at amount is q))
  where
    none : (b : Bool) → cond (b && false) (Some (amount q)) None ≡ None
    none true = refl
    none false = refl

    here : link_at (gains amount is) q ≡ cond (list_any (is_at (nat_cmp q)) is && nat_lt 0 (amount q)) (Some (amount q)) None → (q == i) ≡ true → link_at (gains amount (i ∷ is)) q ≡ cond (list_any (is_at (nat_cmp q)) (i ∷ is) && nat_lt 0 (amount q)) (Some (amount q)) None
    here rest e =
        let same : q ≡ i = eqb-true q i e in
        let test : is_at (nat_cmp q) i ≡ true = same_test q i ∙ e in
        by_test (nat_lt 0 (amount q))
        (λ f. let g : nat_lt 0 (amount i) ≡ true = ap (λ n. nat_lt 0 (amount n)) (sym same) ∙ f in
        rw (g, test, f) (ap (λ n. Some (amount n)) (sym same)))
        (λ f. let g : nat_lt 0 (amount i) ≡ false = ap (λ n. nat_lt 0 (amount n)) (sym same) ∙ f in
        rw (g, test, f) (rest ∙ ap (λ b. cond (list_any (is_at (nat_cmp q)) is && b) (Some (amount q)) None) f ∙ none (list_any (is_at (nat_cmp q)) is)))

    there : link_at (gains amount is) q ≡ cond (list_any (is_at (nat_cmp q)) is && nat_lt 0 (amount q)) (Some (amount q)) None → (q == i) ≡ false → link_at (gains amount (i ∷ is)) q ≡ cond (list_any (is_at (nat_cmp q)) (i ∷ is) && nat_lt 0 (amount q)) (Some (amount q)) None
    there rest e =
        let test : is_at (nat_cmp q) i ≡ false = same_test q i ∙ e in
        by_test (nat_lt 0 (amount i))
        (λ g. rw (g, test) rest)
        (λ g. rw (g, test) rest)

gains_above : (amount : ℕ → ℕ) (n : ℕ) (ids : List ℕ) → Above n ids → Above n (keys_of (gains amount ids))
gains_above amount n [] all = tt
gains_above amount n (i ∷ is) all = by_gain (nat_lt 0 (amount i)) (gains_above amount n is all.1)
  where
    by_gain : (b : Bool) → Above n (keys_of (gains amount is)) → Above n (keys_of (cond b ((i, amount i) ∷ gains amount is) (gains amount is)))
    by_gain true rest = (all.0, rest)
    by_gain false rest = rest

gains_ordered : (amount : ℕ → ℕ) (ids : List ℕ) → IsStrictlySortedBy nat_cmp ids → InOrder (gains amount ids)
unfolding IsStrictlySortedBy
gains_ordered amount [] ordered = tt
gains_ordered amount (i ∷ is) ordered = by_gain (nat_lt 0 (amount i)) (gains_ordered amount is ordered.1)
  where
    by_gain : (b : Bool) → InOrder (gains amount is) → InOrder (cond b ((i, amount i) ∷ gains amount is) (gains amount is))
    by_gain true rest = (gains_above amount i is ordered.0, rest)
    by_gain false rest = rest

-- nobody got anything
pub no_gains : (amount : ℕ → ℕ) (ids : List ℕ) → ((id : ℕ) → amount id ≡ 0) → gains amount ids ≡ []
no_gains amount [] none = refl
no_gains amount (i ∷ is) none = ap (λ n. cond (nat_lt 0 n) ((i, amount i) ∷ gains amount is) (gains amount is)) (none i) ∙ no_gains amount is none

-- the grants stand in order
pub grants_ordered : (pool : Sharing) → InOrder pool.producers → InOrder (grants_of pool)
grants_ordered pool ordered = gains_ordered (gain pool (all_granted pool)) (keys_of pool.producers) ordered

-- the sums that were counted are those of all grants
pub sums_are : (old now : Sharing) (sums : List (ℕ × ℕ)) → IsGiving old now sums → InOrder now.producers → IsNext now None → InOrder sums → sums ≡ grants_of old
sums_are old now sums is ordered none in_order =
    same_entries sums (grants_of old) in_order (grants_ordered old (subst (λ ids. IsStrictlySortedBy nat_cmp ids) is.keys ordered))
    (λ q. found q (link_at sums q) refl ∙ sym (gains_at (gain old (all_granted old)) (keys_of old.producers) q))
  where
    now_is : now ≡ all_granted old
    now_is = sym (none_granted now (sym (next_is now None ordered none))) ∙ is.all

    gain_is : (q : ℕ) → gain old (all_granted old) q ≡ amount_at (λ n. n) (link_at sums q)
    gain_is q =
        let a : unused_at now q ≡ unused_at old q + amount_at (λ n. n) (link_at sums q) = is.raised q in
        let b : unused_at (all_granted old) q ≡ unused_at now q = ap (λ p. unused_at p q) (sym now_is) in
        omega (arith, a, b)

    unused_there : (q : ℕ) (x : Option Demand) → 0 < amount_at (λ (demand : Demand). demand.unused) x → is_some x ≡ true
    unused_there q None above = absurd (omega (arith, above))
    unused_there q (Some demand) above = refl

    among : (q n : ℕ) → link_at sums q ≡ Some n → list_any (is_at (nat_cmp q)) (keys_of old.producers) ≡ true
    among q n there =
        let some : 0 < n = is.some q n there in
        let a : unused_at now q ≡ unused_at old q + amount_at (λ n. n) (link_at sums q) = is.raised q in
        let b : amount_at (λ (n : ℕ). n) (link_at sums q) ≡ n = ap (amount_at (λ n. n)) there in
        let above : 0 < unused_at now q = omega (arith, some, a, b) in
        ap (λ ids. list_any (is_at (nat_cmp q)) ids) (sym is.keys) ∙ sym (is_some-lookup (is_at (nat_cmp q)) now.producers) ∙ unused_there q (link_at now.producers q) above

    found : (q : ℕ) (x : Option ℕ) → link_at sums q ≡ x
        → link_at sums q ≡ cond (list_any (is_at (nat_cmp q)) (keys_of old.producers) && nat_lt 0 (gain old (all_granted old) q)) (Some (gain old (all_granted old) q)) None
    found q None there =
        let zero_is : gain old (all_granted old) q ≡ 0 = gain_is q ∙ ap (amount_at (λ n. n)) there in
        there ∙ sym (ap (λ (n : ℕ). cond {A = Option ℕ} (list_any (is_at (nat_cmp q)) (keys_of old.producers) && nat_lt 0 n) (Some n) None) zero_is ∙ nothing (list_any (is_at (nat_cmp q)) (keys_of old.producers)))
      where
        nothing : (b : Bool) → cond {A = Option ℕ} (b && false) (Some 0) None ≡ None
        nothing true = refl
        nothing false = refl
    found q (Some n) there =
        let is_n : gain old (all_granted old) q ≡ n = gain_is q ∙ ap (amount_at (λ n. n)) there in
        there
        ∙ sym (ap (λ k. cond (list_any (is_at (nat_cmp q)) (keys_of old.producers) && nat_lt 0 k) (Some k) None) is_n
        ∙ ap (λ b. cond (b && nat_lt 0 n) (Some n) None) (among q n there)
        ∙ ap (λ b. cond b (Some n) None) (lt-ltb 0 n (is.some q n there)))

-- where nobody is next nothing is granted
pub no_grants : (pool : Sharing) → next pool ≡ None → grants_of pool ≡ []
no_grants pool none = no_gains (gain pool (all_granted pool)) (keys_of pool.producers) (λ id.
    let same : unused_at (all_granted pool) id ≡ unused_at pool id = ap (λ p. unused_at p id) (none_granted pool none) in
    omega (arith, same))

-- nor where no credit is to be given
pub none_where_enough : (pool : Sharing) → is_short pool ≡ false → grants_of pool ≡ []
none_where_enough pool enough = no_grants pool (ap (λ b. if b then least (need pool) pool.producers else None) enough)

-- and so after all grants
pub no_more_grants : (pool : Sharing) → InOrder pool.producers → grants_of (all_granted pool) ≡ []
no_more_grants pool ordered = no_grants (all_granted pool) (all_done pool ordered)

-- the last choice doesn't matter
granting_but_last : (n : ℕ) (pool : Sharing) (last : ℕ) → granting n (record pool { last = last }) ≡ record (granting n pool) { last = last }
granting_but_last zero pool last = refl
granting_but_last (suc n) pool last = ap (granting n) (one (next pool)) ∙ granting_but_last n (granted pool (next pool)) last
  where
    to : (id : ℕ) (x : Option Demand) → given_to (record pool { last = last }) id x ≡ record (given_to pool id x) { last = last }
    to id None = refl
    to id (Some demand) = refl

    one : (x : Option ℕ) → granted (record pool { last = last }) x ≡ record (granted pool x) { last = last }
    one None = refl
    one (Some id) = to id (link_at pool.producers id)

pub grants_but_last : (pool : Sharing) (last : ℕ) → grants_of (record pool { last = last }) ≡ grants_of pool
grants_but_last pool last = ap (λ p. gains (gain pool p) (keys_of pool.producers)) (granting_but_last (room pool) pool last)

-- a producer that is granted nothing is as it was
pub kept_producer : (pool : Sharing) (q : ℕ) → InOrder pool.producers → link_at (grants_of pool) q ≡ None → link_at (all_granted pool).producers q ≡ link_at pool.producers q
kept_producer pool q ordered none = by_gain (nat_lt 0 (gain pool (all_granted pool) q)) refl
  where
    by_gain : (b : Bool) → nat_lt 0 (gain pool (all_granted pool) q) ≡ b → link_at (all_granted pool).producers q ≡ link_at pool.producers q
    by_gain false e = kept_by_all pool q ordered (zero_is (gain pool (all_granted pool) q) e)
      where
        zero_is : (n : ℕ) → nat_lt 0 n ≡ false → n ≡ 0
        zero_is n e = grind (arith, e)
    by_gain true e = gone (list_any (is_at (nat_cmp q)) (keys_of pool.producers)) refl
      where
        nobody : {X : Type 0} (links : List (ℕ × X)) → list_any (is_at (nat_cmp q)) (keys_of links) ≡ false → link_at links q ≡ None
        nobody links e = is_none (link_at links q) (is_some-lookup (is_at (nat_cmp q)) links ∙ e)
          where
            is_none : {X : Type 0} (x : Option X) → is_some x ≡ false → x ≡ None
            is_none None h = refl
            is_none (Some x) h = absurd cc

        gone : (b : Bool) → list_any (is_at (nat_cmp q)) (keys_of pool.producers) ≡ b → link_at (all_granted pool).producers q ≡ link_at pool.producers q
        gone true f = none_some (gain pool (all_granted pool) q) (sym none ∙ gains_at (gain pool (all_granted pool)) (keys_of pool.producers) q
            ∙ ap (λ b. cond (b && nat_lt 0 (gain pool (all_granted pool) q)) (Some (gain pool (all_granted pool) q)) None) f ∙ ap (λ b. cond b (Some (gain pool (all_granted pool) q)) None) e)
        gone false f = nobody (all_granted pool).producers (ap (λ ids. list_any (is_at (nat_cmp q)) ids) (all_keys pool ordered) ∙ f) ∙ sym (nobody pool.producers f)

-- an answer that ends a call
pub on_ok : {T E : Type 0} (r : Result T E) (P : Type 0) → P → OnOk r P
on_ok (Ok x) P is = is
on_ok (Err e) P is = tt

-- what an address is short by where it lends by what is free
pub short_by_figures : (distribution : Distribution) → (distribution ≡ Balanced) ⊎ (distribution ≡ Closest) → (b : Bool) → b ≡ short_by distribution b
short_by_figures distribution is b = ⊎_elim (λ e. ap (λ d. short_by d b) (sym e)) (λ e. ap (λ d. short_by d b) (sym e)) is
