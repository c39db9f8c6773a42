-- The laws of choices and grants.
use Rattle.std.proofs.Common.{◌≡◌, ◌∙◌, sym, ap, refl, subst, ℕ, Bool, true, false, ◌+◌, ◌<◌, ◌≤◌, inl, inr, ⊎_elim, Option, Some, None, arith}
use Rattle.std.specs.Prelude.{nat_lt, nat_le, if◌then◌else◌, option_and_then}
use Rattle.std.proofs.lemmas.Bool.{ltb-true, ltb-false, leb-false}
use Rattle.route_credit.specs.Laws.{ChoiceIsOne, ChosenIsFree, GrantsAreEnough, NobodyWhereNoneIsFree, NothingLeft}
use Rattle.route_credit.specs.Links.{link_at, IsLeast}
use Rattle.route_credit.specs.Pool.{Sharing, free, lent, lent_of, need_of, short_by, turn, turn_of, IsNextIf}
use Rattle.route_credit.specs.declared.demand.Demand.{Demand}
use Rattle.route_credit.specs.declared.offer.Offer.{Offer}
use Rattle.route_table.specs.declared.sections.Distribution.{Distribution}
use Rattle.route_table.specs.declared.sections.Distribution.TheVariants.{Balanced, Closest, Multicast}
use Rattle.route_credit.proofs.Moved.{by_test}

none_some : {P : Type 0} (n : ℕ) → None ≡ Some n → P
none_some n h = absurd cc

pub least_is_one : (figure : ℕ → Option ℕ) (one other : Option ℕ) → IsLeast figure one → IsLeast figure other → one ≡ other
least_is_one figure None None a b = refl
least_is_one figure None (Some y) a b = none_some b.0 (sym (a y) ∙ b.1)
least_is_one figure (Some x) None a b = none_some a.0 (sym (b x) ∙ a.1)
least_is_one figure (Some x) (Some y) a b =
    ap Some (⊎_elim
    (λ l. ⊎_elim
    (λ k. absurd (omega (arith, l, k)))
    (λ k. let e : b.0 ≡ a.0 = k.0 in absurd (omega (arith, l, e)))
    (b.2 x a.0 a.1))
    (λ l. ⊎_elim
    (λ k. let e : a.0 ≡ b.0 = l.0 in absurd (omega (arith, k, e)))
    (λ k. let p : x ≤ y = l.1 in let q : y ≤ x = k.1 in omega (arith, p, q))
    (b.2 x a.0 a.1))
    (a.2 y b.0 b.1))

pub choice_is_one : ChoiceIsOne
choice_is_one pool one other a b = least_is_one (turn pool) one other a b

-- a consumer that has a turn has free credit
turn_is_free : (distribution : Distribution) (last id : ℕ) (link : Option Offer) (n : ℕ) → option_and_then (turn_of distribution last id) link ≡ Some n → (offer : Offer) × (link ≡ Some offer) × (0 < offer.free)
turn_is_free distribution last id None n h = none_some n h
turn_is_free Balanced last id (Some offer) n h = by_test (nat_lt 0 offer.free) (λ e. (offer, refl, ltb-true 0 offer.free e)) (λ e. none_some n (rw e at h))
turn_is_free Closest last id (Some offer) n h = by_test (nat_lt 0 offer.free) (λ e. (offer, refl, ltb-true 0 offer.free e)) (λ e. none_some n (rw e at h))
turn_is_free Multicast last id (Some offer) n h = none_some n h

pub chosen_is_free : ChosenIsFree
chosen_is_free pool id least = turn_is_free pool.distribution pool.last id (link_at pool.consumers id) least.0 least.1

no_turn : (distribution : Distribution) (last id : ℕ) (offer : Offer) → (distribution ≡ Multicast → ⊥) → turn_of distribution last id offer ≡ None → offer.free ≡ 0
no_turn Balanced last id offer apart none = by_test (nat_lt 0 offer.free) (λ e. none_some offer.undecided (sym (rw e at none))) (λ e. let l : offer.free ≤ 0 = ltb-false 0 offer.free e in omega (arith, l))
no_turn Closest last id offer apart none = by_test (nat_lt 0 offer.free) (λ e. none_some (if nat_lt last id then 0 else 1) (sym (rw e at none))) (λ e. let l : offer.free ≤ 0 = ltb-false 0 offer.free e in omega (arith, l))
no_turn Multicast last id offer apart none = absurd (apart refl)

not_free : (distribution : Distribution) (last id : ℕ) (offer : Offer) → offer.free ≡ 0 → turn_of distribution last id offer ≡ None
not_free Balanced last id offer e = rw e refl
not_free Closest last id offer e = rw e refl
not_free Multicast last id offer e = refl

nobody : (distribution : Distribution) (last id : ℕ) (link : Option Offer) → ((offer : Offer) → link ≡ Some offer → offer.free ≡ 0) → option_and_then (turn_of distribution last id) link ≡ None
nobody distribution last id None none = refl
nobody distribution last id (Some offer) none = not_free distribution last id offer (none offer refl)

never : (distribution : Distribution) (last id : ℕ) (link : Option Offer) → distribution ≡ Multicast → option_and_then (turn_of distribution last id) link ≡ None
never distribution last id None is = refl
never distribution last id (Some offer) is = ap (λ d. turn_of d last id offer) is

pub nobody_where_none_is_free : NobodyWhereNoneIsFree
nobody_where_none_is_free pool = (
  λ apart. (
    λ none id offer there. no_turn pool.distribution pool.last id offer apart (sym (ap (option_and_then (turn_of pool.distribution pool.last id)) there) ∙ none id),
    λ none id. nobody pool.distribution pool.last id (link_at pool.consumers id) (none id),
  ),
  λ is id. never pool.distribution pool.last id (link_at pool.consumers id) is,
)

low_no : (n : ℕ) (demand : Demand) → (if nat_lt n 64 then Some (lent_of demand) else None) ≡ None → 64 ≤ n
low_no n demand none = by_test (nat_lt n 64) (λ e. none_some (lent_of demand) (sym (rw e at none))) (λ e. ltb-false n 64 e)

high_no : (n : ℕ) (demand : Demand) → (if nat_le n 32 then Some (lent_of demand) else None) ≡ None → 32 < n
high_no n demand none = by_test (nat_le n 32) (λ e. none_some (lent_of demand) (sym (rw e at none))) (λ e. omega (arith, leb-false n 32 e))

no_need : (distribution : Distribution) (pool : Sharing) → pool.distribution ≡ distribution → ((id : ℕ) → option_and_then (need_of pool.distribution) (link_at pool.producers id) ≡ None) → (id : ℕ) (demand : Demand) → link_at pool.producers id ≡ Some demand → need_of distribution demand ≡ None
no_need distribution pool is none id demand there = sym (ap (λ d. need_of d demand) is) ∙ sym (ap (option_and_then (need_of pool.distribution)) there) ∙ none id

pub grants_are_enough : GrantsAreEnough
grants_are_enough pool next = by_kind pool.distribution refl (nat_lt (lent pool) (free pool)) refl
  where
    none_is : (d : Distribution) (b : Bool) → pool.distribution ≡ d → nat_lt (lent pool) (free pool) ≡ b → short_by d b ≡ true → (id : ℕ) (demand : Demand) → link_at pool.producers id ≡ Some demand → need_of d demand ≡ None
    none_is d b is e short = no_need d pool is (subst (λ t. IsNextIf t pool None) (ap (λ k. short_by k (nat_lt (lent pool) (free pool))) is ∙ ap (short_by d) e ∙ short) next)

    by_kind : (d : Distribution) → pool.distribution ≡ d → (b : Bool) → nat_lt (lent pool) (free pool) ≡ b → NothingLeft d pool
    by_kind Balanced is true e = inr (λ id demand there. low_no (lent_of demand + demand.held) demand (none_is Balanced true is e refl id demand there))
    by_kind Balanced is false e = inl (ltb-false (lent pool) (free pool) e)
    by_kind Closest is true e = inr (λ id demand there. low_no (lent_of demand + demand.held) demand (none_is Closest true is e refl id demand there))
    by_kind Closest is false e = inl (ltb-false (lent pool) (free pool) e)
    by_kind Multicast is b e = λ id demand there. high_no demand.unused demand (none_is Multicast b is e refl id demand there)
