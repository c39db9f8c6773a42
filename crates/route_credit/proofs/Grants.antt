-- What all grants of a pool leave.
use Rattle.std.proofs.Common.{◌≡◌, ◌∙◌, sym, ap, refl, subst, ℕ, zero, suc, cond, ◌+◌, ◌-◌, ◌<◌, ◌≤◌, Option, Some, None, arith}
use Rattle.std.specs.Prelude.{◌==◌}
use Rattle.std.specs.Map.{keys_of}
use Rattle.std.proofs.lemmas.Bool.{eqb-true}
use Rattle.route_credit.specs.Granting.{all_granted, gain, given_to, granted, granting, next, room}
use Rattle.route_credit.specs.Links.{amount_at, link_at}
use Rattle.route_credit.specs.Pool.{given, IsNext, part_of, Sharing}
use Rattle.route_credit.specs.declared.demand.Demand.{Demand}
use Rattle.route_credit.proofs.Entries.{InOrder, keys_with, with_ordered}
use Rattle.route_credit.proofs.Leasts.{is_next}
use Rattle.route_credit.proofs.Lookups.{link_with}
use Rattle.route_credit.proofs.Moved.{by_test}
use Rattle.route_credit.proofs.Steps.{InNeed, less_room, next_needs}

none_some : {P : Type 0} {X : Type 0} (x : X) → None ≡ Some x → P
none_some x h = absurd cc

-- the one that is next is in need
needs : (pool : Sharing) (id : ℕ) → InOrder pool.producers → next pool ≡ Some id → InNeed pool.distribution (link_at pool.producers id)
needs pool id ordered is = next_needs pool id (subst (IsNext pool) is (is_next pool ordered))

-- what a grant gives to the one that is next
granted_is : (pool : Sharing) (id : ℕ) (demand : Demand) → next pool ≡ Some id → link_at pool.producers id ≡ Some demand → granted pool (next pool) ≡ given pool id demand
granted_is pool id demand is there = ap (granted pool) is ∙ ap (given_to pool id) there

-- nothing is granted where nobody is next
pub still : (n : ℕ) (pool : Sharing) → next pool ≡ None → granting n pool ≡ pool
still zero pool none = refl
still (suc n) pool none = ap (granting n) (ap (granted pool) none) ∙ still n pool none

-- one grant leaves less room
one_less : (pool : Sharing) (id : ℕ) (demand : Demand) → InOrder pool.producers → next pool ≡ Some id → link_at pool.producers id ≡ Some demand → room (given pool id demand) < room pool
one_less pool id demand ordered is there =
    less_room pool (given pool id demand) id (subst (IsNext pool) is (is_next pool ordered))
    (λ other found. ap (given pool id) (same demand other (sym there ∙ found)))
    (λ other found. ordered)
  where
    same : (x y : Demand) → Some x ≡ Some y → x ≡ y
    same x y h = cc

-- where somebody is next there is room
some_room : (pool : Sharing) (id : ℕ) → InOrder pool.producers → next pool ≡ Some id → 0 < room pool
some_room pool id ordered is =
    let need : InNeed pool.distribution (link_at pool.producers id) = needs pool id ordered is in
    let less : room (given pool id need.demand) < room pool = one_less pool id need.demand ordered is need.there in
    omega (arith, less)

given_ordered : (pool : Sharing) (id : ℕ) (demand : Demand) → InOrder pool.producers → InOrder (given pool id demand).producers
given_ordered pool id demand ordered = with_ordered pool.producers id (record demand { unused = demand.unused + part_of pool.distribution demand }) ordered

-- the cases of one grant
one_grant : (P : Sharing → Type 0) (pool : Sharing) → InOrder pool.producers → (next pool ≡ None → P pool)
    → ((id : ℕ) (demand : Demand) → next pool ≡ Some id → link_at pool.producers id ≡ Some demand → P (given pool id demand)) → P (granted pool (next pool))
one_grant P pool ordered none some = by_next (next pool) refl
  where
    by_next : (x : Option ℕ) → next pool ≡ x → P (granted pool (next pool))
    by_next None is = subst P (sym (ap (granted pool) is)) (none is)
    by_next (Some id) is =
        let need : InNeed pool.distribution (link_at pool.producers id) = needs pool id ordered is in
        subst P (sym (granted_is pool id need.demand is need.there)) (some id need.demand is need.there)

-- a property that each grant preserves
pub all_keep : (P : Sharing → Type 0) (n : ℕ) (pool : Sharing) → InOrder pool.producers
    → ((now : Sharing) (id : ℕ) (demand : Demand) → InOrder now.producers → next now ≡ Some id → link_at now.producers id ≡ Some demand → P now → P (given now id demand))
    → P pool → P (granting n pool)
all_keep P zero pool ordered keeps is = is
all_keep P (suc n) pool ordered keeps is =
    all_keep P n (granted pool (next pool))
    (one_grant (λ p. InOrder p.producers) pool ordered (λ none. ordered) (λ id demand next there. given_ordered pool id demand ordered))
    keeps
    (one_grant P pool ordered (λ none. is) (λ id demand next there. keeps pool id demand ordered next there is))

no_room : (pool : Sharing) → InOrder pool.producers → room pool ≤ 0 → next pool ≡ None
no_room pool ordered none = by_next (next pool) refl
  where
    by_next : (x : Option ℕ) → next pool ≡ x → x ≡ None
    by_next None is = refl
    by_next (Some id) is = let l : 0 < room pool = some_room pool id ordered is in absurd (omega (arith, l, none))

-- after as many grants as there is room for nobody is next
finished : (n : ℕ) (pool : Sharing) → InOrder pool.producers → room pool ≤ n → next (granting n pool) ≡ None
finished zero pool ordered most = no_room pool ordered most
finished (suc n) pool ordered most = by_next (next pool) refl (finished n (granted pool (next pool)))
  where
    by_next : (x : Option ℕ) → next pool ≡ x
        → (InOrder (granted pool (next pool)).producers → room (granted pool (next pool)) ≤ n → next (granting n (granted pool (next pool))) ≡ None)
        → next (granting n (granted pool (next pool))) ≡ None
    by_next None is rest = ap (λ p. next (granting n p)) (ap (granted pool) is) ∙ ap next (still n pool is) ∙ is
    by_next (Some id) is rest =
        let need : InNeed pool.distribution (link_at pool.producers id) = needs pool id ordered is in
        let same : granted pool (next pool) ≡ given pool id need.demand = granted_is pool id need.demand is need.there in
        let less : room (given pool id need.demand) < room pool = one_less pool id need.demand ordered is need.there in
        rest
        (subst (λ p. InOrder p.producers) (sym same) (given_ordered pool id need.demand ordered))
        (subst (λ p. room p ≤ n) (sym same) (omega (arith, less, most)))

-- more grants than there is room for change nothing
enough : (n m : ℕ) (pool : Sharing) → InOrder pool.producers → room pool ≤ n → room pool ≤ m → granting n pool ≡ granting m pool
enough zero m pool ordered one two = sym (still m pool (no_room pool ordered one))
enough (suc n) zero pool ordered one two = still (suc n) pool (no_room pool ordered two)
enough (suc n) (suc m) pool ordered one two = by_next (next pool) refl (enough n m (granted pool (next pool)))
  where
    by_next : (x : Option ℕ) → next pool ≡ x
        → (InOrder (granted pool (next pool)).producers → room (granted pool (next pool)) ≤ n → room (granted pool (next pool)) ≤ m → granting n (granted pool (next pool)) ≡ granting m (granted pool (next pool)))
        → granting n (granted pool (next pool)) ≡ granting m (granted pool (next pool))
    by_next None is rest =
        let same : granted pool (next pool) ≡ pool = ap (granted pool) is in
        ap (granting n) same ∙ still n pool is ∙ sym (still m pool is) ∙ sym (ap (granting m) same)
    by_next (Some id) is rest =
        let need : InNeed pool.distribution (link_at pool.producers id) = needs pool id ordered is in
        let same : granted pool (next pool) ≡ given pool id need.demand = granted_is pool id need.demand is need.there in
        let less : room (given pool id need.demand) < room pool = one_less pool id need.demand ordered is need.there in
        rest
        (subst (λ p. InOrder p.producers) (sym same) (given_ordered pool id need.demand ordered))
        (subst (λ p. room p ≤ n) (sym same) (omega (arith, less, one)))
        (subst (λ p. room p ≤ m) (sym same) (omega (arith, less, two)))

-- after all grants nobody is next
pub all_done : (pool : Sharing) → InOrder pool.producers → next (all_granted pool) ≡ None
all_done pool ordered = finished (room pool) pool ordered (omega arith)

-- all grants are one grant, and then all others
pub one_of_all : (pool : Sharing) (id : ℕ) (demand : Demand) → InOrder pool.producers → next pool ≡ Some id → link_at pool.producers id ≡ Some demand → all_granted (given pool id demand) ≡ all_granted pool
one_of_all pool id demand ordered is there =
    let less : room (given pool id demand) < room pool = one_less pool id demand ordered is there in
    by_room (room pool) refl less
  where
    by_room : (n : ℕ) → room pool ≡ n → room (given pool id demand) < n → all_granted (given pool id demand) ≡ granting n pool
    by_room zero e less = absurd (omega (arith, less))
    by_room (suc n) e less =
        enough (room (given pool id demand)) n (given pool id demand) (given_ordered pool id demand ordered) (omega arith) (omega (arith, less))
        ∙ ap (granting n) (sym (granted_is pool id demand is there))

pub none_granted : (pool : Sharing) → next pool ≡ None → all_granted pool ≡ pool
none_granted pool none = still (room pool) pool none

-- all grants leave nothing more to grant
pub all_of_all : (pool : Sharing) → InOrder pool.producers → all_granted (all_granted pool) ≡ all_granted pool
all_of_all pool ordered = none_granted (all_granted pool) (all_done pool ordered)

pub all_ordered : (pool : Sharing) → InOrder pool.producers → InOrder (all_granted pool).producers
all_ordered pool ordered = all_keep (λ p. InOrder p.producers) (room pool) pool ordered (λ now id demand o next there is. given_ordered now id demand o) ordered

-- grants change no number
pub all_keys : (pool : Sharing) → InOrder pool.producers → keys_of (all_granted pool).producers ≡ keys_of pool.producers
all_keys pool ordered = all_keep (λ p. keys_of p.producers ≡ keys_of pool.producers) (room pool) pool ordered
    (λ now id demand o next there is. keys_with now.producers id (record demand { unused = demand.unused + part_of now.distribution demand }) demand o there ∙ is) refl

pub all_consumers : (pool : Sharing) → InOrder pool.producers → (all_granted pool).consumers ≡ pool.consumers
all_consumers pool ordered = all_keep (λ p. p.consumers ≡ pool.consumers) (room pool) pool ordered (λ now id demand o next there is. is) refl

pub all_distribution : (pool : Sharing) → InOrder pool.producers → (all_granted pool).distribution ≡ pool.distribution
all_distribution pool ordered = all_keep (λ p. p.distribution ≡ pool.distribution) (room pool) pool ordered (λ now id demand o next there is. is) refl

pub all_last : (pool : Sharing) → InOrder pool.producers → (all_granted pool).last ≡ pool.last
all_last pool ordered = all_keep (λ p. p.last ≡ pool.last) (room pool) pool ordered (λ now id demand o next there is. is) refl

-- a producer and the credit that it was granted, or nobody
abbrev raised_by : ℕ → Option Demand → Option Demand
raised_by n None = None
raised_by n (Some demand) = Some (record demand { unused = demand.unused + n })

abbrev Raised : Option Demand → Option Demand → Type 0
Raised old new = (n : ℕ) × (new ≡ raised_by n old)

raised_none : (x : Option Demand) → x ≡ raised_by 0 x
raised_none None = refl
raised_none (Some demand) = ap (λ n. Some (record demand { unused = n })) (let e : demand.unused ≡ demand.unused + 0 = omega arith in e)

raised_more : (old new : Option Demand) (demand : Demand) (n : ℕ) → Raised old new → new ≡ Some demand → Raised old (Some (record demand { unused = demand.unused + n }))
raised_more None new demand n is there = none_some demand (sym is.1 ∙ there)
raised_more (Some before) new demand n is there =
    let same : record before { unused = before.unused + is.0 } ≡ demand = inside (record before { unused = before.unused + is.0 }) demand (sym is.1 ∙ there) in
    let unused : before.unused + is.0 + n ≡ before.unused + (is.0 + n) = omega arith in
    (is.0 + n, ap {A = Demand} (λ d. Some (record d { unused = d.unused + n })) (sym same) ∙ ap (λ u. Some (record before { unused = u })) unused)
  where
    inside : (x y : Demand) → Some x ≡ Some y → x ≡ y
    inside x y h = cc

-- grants raise what is unused, and nothing else
all_raised : (pool : Sharing) (q : ℕ) → InOrder pool.producers → Raised (link_at pool.producers q) (link_at (all_granted pool).producers q)
all_raised pool q ordered = all_keep (λ p. Raised (link_at pool.producers q) (link_at p.producers q)) (room pool) pool ordered one (0, raised_none (link_at pool.producers q))
  where
    one : (now : Sharing) (id : ℕ) (demand : Demand) → InOrder now.producers → next now ≡ Some id → link_at now.producers id ≡ Some demand
        → Raised (link_at pool.producers q) (link_at now.producers q) → Raised (link_at pool.producers q) (link_at (given now id demand).producers q)
    one now id demand o next there is =
        let more : Demand = record demand { unused = demand.unused + part_of now.distribution demand } in
        subst (Raised (link_at pool.producers q)) (sym (link_with now.producers id more q))
        (by_test (id == q)
        (λ e. subst (λ b. Raised (link_at pool.producers q) (cond b (Some more) (link_at now.producers q))) (sym e)
        (raised_more (link_at pool.producers q) (link_at now.producers q) demand (part_of now.distribution demand) is (ap (link_at now.producers) (sym (eqb-true id q e)) ∙ there)))
        (λ e. subst (λ b. Raised (link_at pool.producers q) (cond b (Some more) (link_at now.producers q))) (sym e) is))

-- a producer that got nothing is as it was
pub kept_by_all : (pool : Sharing) (q : ℕ) → InOrder pool.producers → gain pool (all_granted pool) q ≡ 0 → link_at (all_granted pool).producers q ≡ link_at pool.producers q
kept_by_all pool q ordered none = by_link (link_at pool.producers q) (link_at (all_granted pool).producers q) (all_raised pool q ordered) none
  where
    by_link : (old new : Option Demand) → Raised old new → amount_at (λ demand. demand.unused) new - amount_at (λ demand. demand.unused) old ≡ 0 → new ≡ old
    by_link None new is none = is.1
    by_link (Some before) new is none =
        let unused : amount_at (λ (demand : Demand). demand.unused) new ≡ before.unused + is.0 = ap (amount_at (λ demand. demand.unused)) is.1 in
        let zero_is : is.0 ≡ 0 = omega (arith, unused, none) in
        is.1 ∙ ap (λ n. raised_by n (Some before)) zero_is ∙ sym (raised_none (Some before))

-- and no producer is added
pub none_by_all : (pool : Sharing) (q : ℕ) → InOrder pool.producers → link_at pool.producers q ≡ None → link_at (all_granted pool).producers q ≡ None
none_by_all pool q ordered none = let raised = all_raised pool q ordered in raised.1 ∙ ap (raised_by raised.0) none
