-- Laws of choices and grants.
use Rattle.std.specs.Prelude.{◌≡◌, ◌+◌, ◌<◌, ◌≤◌, ◌⊎◌, ◌↔◌, ℕ, Option, None, Some, []}
use Rattle.std.specs.List.Sorted.{IsStrictlySortedBy}
use Rattle.std.specs.Map.{keys_of}
use Rattle.std.specs.Ordering.{nat_cmp}
use Rattle.route_credit.specs.Granting.{all_granted, choice, grants_of}
use Rattle.route_credit.specs.Links.{link_at}
use Rattle.route_credit.specs.Pool.{free, IsChoice, IsNext, lent, lent_of, remembering, Sharing}
use Rattle.route_credit.specs.declared.demand.Demand.{Demand}
use Rattle.route_credit.specs.declared.offer.Offer.{Offer}
use Rattle.route_table.specs.declared.sections.Distribution.{Distribution}
use Rattle.route_table.specs.declared.sections.Distribution.TheVariants.{Balanced, Closest, Multicast}

-- there is one choice
abbrev pub ChoiceIsOne : Type 0
ChoiceIsOne = (pool : Sharing) (one other : Option ℕ) → IsChoice pool one → IsChoice pool other → one ≡ other

-- a consumer that is chosen has free credit
abbrev pub ChosenIsFree : Type 0
ChosenIsFree = (pool : Sharing) (id : ℕ) → IsChoice pool (Some id) → (offer : Offer) × (link_at pool.consumers id ≡ Some offer) × (0 < offer.free)

-- no consumer has free credit
abbrev pub NobodyFree : Sharing → Type 0
NobodyFree pool = (id : ℕ) (offer : Offer) → link_at pool.consumers id ≡ Some offer → offer.free ≡ 0

-- nobody is chosen exactly where no consumer has free credit; on a multicast address nobody ever is
abbrev pub NobodyWhereNoneIsFree : Type 0
NobodyWhereNoneIsFree = (pool : Sharing) →
    ((pool.distribution ≡ Multicast → ⊥) → (IsChoice pool None ↔ NobodyFree pool)) × (pool.distribution ≡ Multicast → IsChoice pool None)

-- every producer of the pool has this
abbrev pub EachProducer : (Demand → Type 0) → Sharing → Type 0
EachProducer P pool = (id : ℕ) (demand : Demand) → link_at pool.producers id ≡ Some demand → P demand

-- Where no producer is next, what is lent isn't below what is free, or no producer is below 64; on a multicast address each has more than 32.
abbrev pub NothingLeft : Distribution → Sharing → Type 0
NothingLeft Balanced pool = (free pool ≤ lent pool) ⊎ EachProducer (λ demand. 64 ≤ lent_of demand + demand.held) pool
NothingLeft Closest pool = (free pool ≤ lent pool) ⊎ EachProducer (λ demand. 64 ≤ lent_of demand + demand.held) pool
NothingLeft Multicast pool = EachProducer (λ demand. 32 < demand.unused) pool

abbrev pub GrantsAreEnough : Type 0
GrantsAreEnough = (pool : Sharing) → IsNext pool None → NothingLeft pool.distribution pool

-- a pool whose producers stand in order of attach
abbrev pub InOrder : Sharing → Type 0
InOrder pool = IsStrictlySortedBy nat_cmp (keys_of pool.producers)

-- after all grants nothing more is granted
abbrev pub GrantsLeaveNone : Type 0
GrantsLeaveNone = (pool : Sharing) → InOrder pool → grants_of (all_granted pool) ≡ []

-- the consumer of the last delivery doesn't affect grants
abbrev pub GrantsButLast : Type 0
GrantsButLast = (pool : Sharing) (last : ℕ) → grants_of (record pool { last = last }) ≡ grants_of pool

-- nor choices, except on an address that goes round
abbrev pub ChoiceButLast : Type 0
ChoiceButLast = (pool : Sharing) → choice (remembering pool) ≡ choice pool
