-- What one grant does.
use Rattle.std.proofs.Common.{◌≡◌, ◌∙◌, sym, ap, refl, subst, ℕ, Bool, true, false, cond, ◌+◌, ◌-◌, ◌<◌, ◌≤◌, inl, inr, Option, Some, None, List, [], arith}
use Rattle.std.specs.Prelude.{◌==◌, nat_lt, nat_le, if◌then◌else◌, option_and_then}
use Rattle.std.specs.Map.{keys_of}
use Rattle.std.specs.List.Sorted.{IsStrictlySortedBy}
use Rattle.std.specs.Ordering.{nat_cmp}
use Rattle.std.proofs.lemmas.Bool.{eqb-true, ltb-true, leb-true}
use Rattle.route_credit.specs.Giving.{IsGiving}
use Rattle.route_credit.specs.Granting.{all_granted, room}
use Rattle.route_credit.specs.Links.{amount_at, link_at, with_link, total}
use Rattle.route_credit.specs.Pool.{Sharing, Granted, given, need_of, is_short, IsNext, IsNextIf, free, lent, lent_of, part_of, short_by, unused_at, WithinFree}
use Rattle.route_credit.specs.Pool.Granted.{none, more}
use Rattle.route_credit.specs.declared.demand.Demand.{Demand}
use Rattle.route_table.specs.declared.sections.Distribution.{Distribution}
use Rattle.route_table.specs.declared.sections.Distribution.TheVariants.{Balanced, Closest, Multicast}
use Rattle.route_credit.proofs.Lookups.{link_with}
use Rattle.route_credit.proofs.Moved.{by_test}
use Rattle.route_credit.proofs.Sums.{total_set}

-- a producer in need
pub record InNeed (distribution : Distribution) (link : Option Demand) : Type 0 where
  pub demand : Demand
  pub there : link ≡ Some demand
  pub low : demand.unused < 64 + demand.due
  pub gets : 0 < part_of distribution demand

in_need : (distribution : Distribution) (link : Option Demand) (n : ℕ) → option_and_then (need_of distribution) link ≡ Some n → InNeed distribution link
in_need distribution None n h = absurd cc
in_need Balanced (Some d) n h = by_test (nat_lt (lent_of d + d.held) 64)
    (λ e. record { demand = d; there = refl; low = (let l : d.unused - d.due + d.held < 64 = ltb-true (lent_of d + d.held) 64 e in omega (arith, l)); gets = omega arith })
    (λ e. absurd (none_some n (rw e at h)))
  where
    none_some : (n : ℕ) → None ≡ Some n → ⊥
    none_some n h = cc
in_need Closest (Some d) n h = by_test (nat_lt (lent_of d + d.held) 64)
    (λ e. record { demand = d; there = refl; low = (let l : d.unused - d.due + d.held < 64 = ltb-true (lent_of d + d.held) 64 e in omega (arith, l)); gets = omega arith })
    (λ e. absurd (none_some n (rw e at h)))
  where
    none_some : (n : ℕ) → None ≡ Some n → ⊥
    none_some n h = cc
in_need Multicast (Some d) n h = by_test (nat_le d.unused 32)
    (λ e. let l : d.unused ≤ 32 = leb-true d.unused 32 e in record { demand = d; there = refl; low = omega (arith, l); gets = omega (arith, l) })
    (λ e. absurd (none_some n (rw e at h)))
  where
    none_some : (n : ℕ) → None ≡ Some n → ⊥
    none_some n h = cc

-- the one that is next is in need
pub next_needs : (pool : Sharing) (id : ℕ) → IsNext pool (Some id) → InNeed pool.distribution (link_at pool.producers id)
next_needs pool id next = by_short (is_short pool) next
  where
    some_none : (id : ℕ) → Some id ≡ None → ⊥
    some_none id h = cc

    by_short : (b : Bool) → IsNextIf b pool (Some id) → InNeed pool.distribution (link_at pool.producers id)
    by_short true least = in_need pool.distribution (link_at pool.producers id) least.0 least.1
    by_short false is = absurd (some_none id is)

-- after a grant no more is lent than is free
pub within_more : (now after : Sharing) (id : ℕ) → IsNext now (Some id)
    → ((demand : Demand) → link_at now.producers id ≡ Some demand → after ≡ given now id demand)
    → ((demand : Demand) → link_at now.producers id ≡ Some demand → IsStrictlySortedBy nat_cmp (keys_of now.producers))
    → WithinFree after.distribution (lent after) (free after)
within_more now after id next gives ordered =
    subst (λ p. WithinFree p.distribution (lent p) (free p)) (sym (gives needs.demand needs.there))
    (by_kind now.distribution refl (nat_lt (lent now) (free now)) refl)
  where
    needs : InNeed now.distribution (link_at now.producers id)
    needs = next_needs now id next

    raised_demand : Demand
    raised_demand = record needs.demand { unused = needs.demand.unused + part_of now.distribution needs.demand }

    some_none : (id : ℕ) → Some id ≡ None → ⊥
    some_none id h = cc

    sum : total lent_of (with_link now.producers id raised_demand) ≤ lent now + part_of now.distribution needs.demand
    sum =
        let set : total lent_of (with_link now.producers id raised_demand) + amount_at lent_of (link_at now.producers id) ≡ lent now + (needs.demand.unused + part_of now.distribution needs.demand - needs.demand.due) = total_set lent_of now.producers id raised_demand (ordered needs.demand needs.there) in
        let was : amount_at lent_of (link_at now.producers id) ≡ needs.demand.unused - needs.demand.due = ap (amount_at lent_of) needs.there in
        omega (arith, set, was)

    below : (d : Distribution) → now.distribution ≡ d → (b : Bool) → nat_lt (lent now) (free now) ≡ b → short_by d b ≡ b → lent now < free now
    below d is true e same = ltb-true (lent now) (free now) e
    below d is false e same = absurd (some_none id (subst (λ t. IsNextIf t now (Some id)) (ap (λ k. short_by k (nat_lt (lent now) (free now))) is ∙ ap (short_by d) e ∙ same) next))

    by_kind : (d : Distribution) → now.distribution ≡ d → (b : Bool) → nat_lt (lent now) (free now) ≡ b → WithinFree d (total lent_of (with_link now.producers id raised_demand)) (free now)
    by_kind Balanced is b e =
        let l : lent now < free now = below Balanced is b e refl in
        let p : part_of now.distribution needs.demand ≡ 1 = ap (λ k. part_of k needs.demand) is in
        let s = sum in omega (arith, l, p, s)
    by_kind Closest is b e =
        let l : lent now < free now = below Closest is b e refl in
        let p : part_of now.distribution needs.demand ≡ 1 = ap (λ k. part_of k needs.demand) is in
        let s = sum in omega (arith, l, p, s)
    by_kind Multicast is b e = tt

-- one more grant
pub giving_more : (old now after : Sharing) (id part : ℕ) (sums sums_after : List (ℕ × ℕ)) → IsGiving old now sums → IsNext now (Some id)
    → ((demand : Demand) → link_at now.producers id ≡ Some demand → after ≡ given now id demand)
    → ((demand : Demand) → link_at now.producers id ≡ Some demand → part ≡ part_of now.distribution demand)
    → ((q : ℕ) → link_at sums_after q ≡ (if id == q then Some (amount_at (λ n. n) (link_at sums id) + part) else link_at sums q))
    → ((demand : Demand) → link_at now.producers id ≡ Some demand → IsStrictlySortedBy nat_cmp (keys_of now.producers))
    → all_granted after ≡ all_granted old → keys_of after.producers ≡ keys_of old.producers
    → IsGiving old after sums_after
giving_more old now after id part sums sums_after is next gives parts adds ordered all keys =
    record {
      all = all;
      keys = keys;
      granted = subst (λ p. Granted old p) (sym (gives demand there)) (more now id demand is.granted next there);
      within = inr (within_more now after id next gives ordered);
      some = λ q n h. by_test (id == q)
          (λ e. above n (sym (ap (λ b. if b then Some (amount_at (λ n. n) (link_at sums id) + part) else link_at sums q) e) ∙ sym (adds q) ∙ h))
          (λ e. is.some q n (sym (ap (λ b. if b then Some (amount_at (λ n. n) (link_at sums id) + part) else link_at sums q) e) ∙ sym (adds q) ∙ h));
      raised = λ q. by_test (id == q) (here q) (elsewhere q);
    }
  where
    needs : InNeed now.distribution (link_at now.producers id)
    needs = next_needs now id next

    demand : Demand
    demand = needs.demand

    there : link_at now.producers id ≡ Some demand
    there = needs.there

    positive : 0 < part
    positive = let e : part ≡ part_of now.distribution demand = parts demand there in let l = needs.gets in omega (arith, e, l)

    above : (n : ℕ) → Some (amount_at (λ n. n) (link_at sums id) + part) ≡ Some n → 0 < n
    above n h = let e : amount_at (λ n. n) (link_at sums id) + part ≡ n = cc in let l = positive in omega (arith, e, l)

    raised_demand : Demand
    raised_demand = record demand { unused = demand.unused + part_of now.distribution demand }

    at_after : (q : ℕ) → unused_at after q ≡ amount_at (λ d. d.unused) (cond (id == q) (Some raised_demand) (link_at now.producers q))
    at_after q = ap (λ p. unused_at p q) (gives demand there) ∙ ap (amount_at (λ d. d.unused)) (link_with now.producers id raised_demand q)

    here : (q : ℕ) → (id == q) ≡ true → unused_at after q ≡ unused_at old q + amount_at (λ n. n) (link_at sums_after q)
    here q e =
        let same : id ≡ q = eqb-true id q e in
        let one : unused_at after q ≡ demand.unused + part_of now.distribution demand = at_after q ∙ ap (λ b. amount_at (λ d. d.unused) (cond b (Some raised_demand) (link_at now.producers q))) e in
        let two : unused_at now q ≡ demand.unused = ap (λ k. unused_at now k) (sym same) ∙ ap (amount_at (λ d. d.unused)) there in
        let three : amount_at (λ n. n) (link_at sums_after q) ≡ amount_at (λ n. n) (link_at sums id) + part = ap (amount_at (λ n. n)) (adds q) ∙ ap (λ b. amount_at (λ n. n) (if b then Some (amount_at (λ n. n) (link_at sums id) + part) else link_at sums q)) e in
        let four : unused_at now q ≡ unused_at old q + amount_at (λ n. n) (link_at sums id) = is.raised q ∙ ap (λ k. unused_at old q + amount_at (λ n. n) (link_at sums k)) (sym same) in
        let five : part ≡ part_of now.distribution demand = parts demand there in
        omega (arith, one, two, three, four, five)

    elsewhere : (q : ℕ) → (id == q) ≡ false → unused_at after q ≡ unused_at old q + amount_at (λ n. n) (link_at sums_after q)
    elsewhere q e =
        let one : unused_at after q ≡ unused_at now q = at_after q ∙ ap (λ b. amount_at (λ d. d.unused) (cond b (Some raised_demand) (link_at now.producers q))) e in
        let two : amount_at (λ n. n) (link_at sums_after q) ≡ amount_at (λ n. n) (link_at sums q) = ap (amount_at (λ n. n)) (adds q) ∙ ap (λ b. amount_at (λ n. n) (if b then Some (amount_at (λ n. n) (link_at sums id) + part) else link_at sums q)) e in
        one ∙ is.raised q ∙ ap (λ n. unused_at old q + n) (sym two)

-- a grant leaves less room
pub less_room : (now after : Sharing) (id : ℕ) → IsNext now (Some id)
    → ((demand : Demand) → link_at now.producers id ≡ Some demand → after ≡ given now id demand)
    → ((demand : Demand) → link_at now.producers id ≡ Some demand → IsStrictlySortedBy nat_cmp (keys_of now.producers))
    → room after < room now
less_room now after id next gives ordered =
    let demand : Demand = needs.demand in
    let raised_demand : Demand = record demand { unused = demand.unused + part_of now.distribution demand } in
    let sum : total left (with_link now.producers id raised_demand) + amount_at left (link_at now.producers id) ≡ total left now.producers + left raised_demand = total_set left now.producers id raised_demand (ordered demand needs.there) in
    let was : amount_at left (link_at now.producers id) ≡ 64 + demand.due - demand.unused = ap (amount_at left) needs.there in
    let is : room after ≡ total left (with_link now.producers id raised_demand) = ap room (gives demand needs.there) in
    let low : demand.unused < 64 + demand.due = needs.low in
    let gets : 0 < part_of now.distribution demand = needs.gets in
    omega (arith, sum, was, is, low, gets)
  where
    needs : InNeed now.distribution (link_at now.producers id)
    needs = next_needs now id next

    left : Demand → ℕ
    left d = 64 + d.due - d.unused

-- nothing was given yet
pub giving_none : (pool : Sharing) (sums : List (ℕ × ℕ)) → sums ≡ [] → IsGiving pool pool sums
giving_none pool sums is = record {
  granted = none;
  all = refl;
  keys = refl;
  within = inl refl;
  some = λ id n h. absurd (none_some n (sym (ap (λ s. link_at s id) is) ∙ h));
  raised = λ id. let e : amount_at (λ n. n) (link_at sums id) ≡ 0 = ap (λ s. amount_at (λ n. n) (link_at s id)) is in omega (arith, e);
}
  where
    none_some : (n : ℕ) → None ≡ Some n → ⊥
    none_some n h = cc

pub granted_more : (old now after : Sharing) (id : ℕ) → Granted old now → IsNext now (Some id)
    → ((demand : Demand) → link_at now.producers id ≡ Some demand → after ≡ given now id demand) → Granted old after
granted_more old now after id granted next gives =
    let needs : InNeed now.distribution (link_at now.producers id) = next_needs now id next in
    subst (λ p. Granted old p) (sym (gives needs.demand needs.there)) (more now id needs.demand granted next needs.there)
