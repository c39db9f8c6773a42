-- The pool of an address: who gets the next delivery, and who gets credit.
use Rattle.std.specs.Prelude.{◌≡◌, ◌==◌, ◌&&◌, ◌+◌, ◌-◌, ◌≤◌, ◌<◌, ℕ, Bool, true, false, Option, None, Some, option_and_then, nat_lt, nat_le, List, [], map, filter, length, if◌then◌else◌}
use Rattle.std.specs.Ordering.{nat_cmp}
use Rattle.std.specs.List.Sorted.{IsStrictlySortedBy}
use Rattle.std.specs.Map.{keys_of}
use Rattle.route_credit.specs.Links.{amount_at, link_at, with_link, without_link, total, IsLeast}
use Rattle.route_credit.specs.declared.demand.Demand.{Demand}
use Rattle.route_credit.specs.declared.ids.ProducerId.{ProducerId}
use Rattle.route_credit.specs.declared.offer.Offer.{Offer}
use Rattle.route_table.specs.declared.sections.Distribution.{Distribution}
use Rattle.route_table.specs.declared.sections.Distribution.TheVariants.{Balanced, Closest, Multicast}

-- the pool of one address: how it shares, its links in order of attach, and the consumer last chosen, 0 before the first
pub record Sharing : Type 0 where
  pub distribution : Distribution
  pub consumers : List (ℕ × Offer)
  pub producers : List (ℕ × Demand)
  pub last : ℕ

-- a pool of no links
abbrev pub no_links : Distribution → Sharing
no_links distribution = record { distribution = distribution; consumers = []; producers = []; last = 0 }

-- whether a pool has no links
abbrev pub has_no_links : Sharing → Bool
has_no_links pool = length pool.consumers == 0 && length pool.producers == 0

-- what a consumer has now
abbrev pub offered : Sharing → ℕ → ℕ → ℕ → Sharing
offered pool id free undecided = record pool { consumers = with_link pool.consumers id (record { free = free; undecided = undecided }) }

-- what a producer has now
abbrev pub wanted : Sharing → ℕ → ℕ → ℕ → ℕ → Sharing
wanted pool id unused due held = record pool { producers = with_link pool.producers id (record { unused = unused; due = due; held = held }) }

-- the lent credit of a producer: what is unused less what is due, not below 0
abbrev pub lent_of : Demand → ℕ
lent_of demand = demand.unused - demand.due

abbrev pub without_consumer : Sharing → ℕ → Sharing
without_consumer pool id = record pool { consumers = without_link pool.consumers id }

abbrev pub without_producer : Sharing → ℕ → Sharing
without_producer pool id = record pool { producers = without_link pool.producers id }

-- the sum of the free credit, and of the lent credit
abbrev pub free : Sharing → ℕ
free pool = total (λ offer. offer.free) pool.consumers

abbrev pub lent : Sharing → ℕ
lent pool = total lent_of pool.producers

-- What a consumer with free credit is chosen by. Balanced: its undecided deliveries. Closest: those after the one last chosen come first,
-- then the others. Multicast chooses nobody: each consumer with free credit gets a copy.
abbrev pub turn_of : Distribution → ℕ → ℕ → Offer → Option ℕ
turn_of Balanced last id offer = if nat_lt 0 offer.free then Some offer.undecided else None
turn_of Closest last id offer = if nat_lt 0 offer.free then Some (if nat_lt last id then 0 else 1) else None
turn_of Multicast last id offer = None

abbrev pub turn : Sharing → ℕ → Option ℕ
turn pool id = option_and_then (turn_of pool.distribution pool.last id) (link_at pool.consumers id)

-- the choice: of the consumers with free credit the one whose turn comes first
abbrev pub IsChoice : Sharing → Option ℕ → Type 0
IsChoice pool chosen = IsLeast (turn pool) chosen

-- the pool after a choice
abbrev pub chose : Sharing → Option ℕ → Sharing
chose pool None = pool
chose pool (Some id) = record pool { last = id }

-- the consumers that get a copy of a message of a multicast address, in order of attach: those with free credit
abbrev pub copies_by : Distribution → List (ℕ × Offer) → List ℕ
copies_by Balanced consumers = []
copies_by Closest consumers = []
copies_by Multicast consumers = keys_of (filter (λ consumer. nat_lt 0 consumer.1.free) consumers)

abbrev pub copies : Sharing → List ℕ
copies pool = copies_by pool.distribution pool.consumers

-- How much of the number last chosen the next choice depends on: only closest uses it.
abbrev pub remembered : Distribution → ℕ → ℕ
remembered Balanced last = 0
remembered Closest last = last
remembered Multicast last = 0

-- a pool, with no more of its last choice than that
abbrev pub remembering : Sharing → Sharing
remembering pool = record pool { last = remembered pool.distribution pool.last }

-- What a producer in need of credit is chosen by: its lent credit. It is in need while its lent credit and what it holds are below 64;
-- on a multicast address where its unused credit is 32 or less.
abbrev pub need_of : Distribution → Demand → Option ℕ
need_of Balanced demand = if nat_lt (lent_of demand + demand.held) 64 then Some (lent_of demand) else None
need_of Closest demand = if nat_lt (lent_of demand + demand.held) 64 then Some (lent_of demand) else None
need_of Multicast demand = if nat_le demand.unused 32 then Some (lent_of demand) else None

abbrev pub need : Sharing → ℕ → Option ℕ
need pool id = option_and_then (need_of pool.distribution) (link_at pool.producers id)

abbrev pub short_by : Distribution → Bool → Bool
short_by Balanced below = below
short_by Closest below = below
short_by Multicast below = true

-- whether any credit is to be given: while less is lent than is free; on a multicast address always
abbrev pub is_short : Sharing → Bool
is_short pool = short_by pool.distribution (nat_lt (lent pool) (free pool))

-- the producer that is given credit next, if there is one
abbrev pub IsNextIf : Bool → Sharing → Option ℕ → Type 0
IsNextIf true pool next = IsLeast (need pool) next
IsNextIf false pool next = next ≡ None

abbrev pub IsNext : Sharing → Option ℕ → Type 0
IsNext pool next = IsNextIf (is_short pool) pool next

-- how much a producer is given: one credit; on a multicast address as much as it needs to have 64 unused
abbrev pub part_of : Distribution → Demand → ℕ
part_of Balanced demand = 1
part_of Closest demand = 1
part_of Multicast demand = 64 - demand.unused

abbrev pub given : Sharing → ℕ → Demand → Sharing
given pool id demand = record pool { producers = with_link pool.producers id (record demand { unused = demand.unused + part_of pool.distribution demand }) }

-- the pool after some grants, each to the producer that is next
pub data Granted (pool : Sharing) : Sharing → Type 0 where
  none : Granted pool pool
  more : (now : Sharing) (id : ℕ) (demand : Demand) → Granted pool now → IsNext now (Some id) → link_at now.producers id ≡ Some demand → Granted pool (given now id demand)

-- what is lent is at most what is free, where the address lends by what is free
abbrev pub WithinFree : Distribution → ℕ → ℕ → Type 0
WithinFree Balanced lent free = lent ≤ free
WithinFree Closest lent free = lent ≤ free
WithinFree Multicast lent free = Unit {0}

-- the unused credit of a producer, 0 of one that isn't there
abbrev pub unused_at : Sharing → ℕ → ℕ
unused_at pool id = amount_at (λ demand. demand.unused) (link_at pool.producers id)

-- the sums by number
abbrev pub by_id : List (ProducerId × ℕ) → List (ℕ × ℕ)
by_id sums = map (λ sum. (sum.0.0, sum.1)) sums

-- what was given between two pools: each producer that got some is listed once, in order of attach, with its sum
pub record IsTold (old new : Sharing) (sums : List (ProducerId × ℕ)) : Type 0 where
  pub ascend : IsStrictlySortedBy nat_cmp (map (λ sum. sum.0) (by_id sums))
  pub some : (id n : ℕ) → link_at (by_id sums) id ≡ Some n → 0 < n
  pub raised : (id : ℕ) → unused_at new id ≡ unused_at old id + amount_at (λ n. n) (link_at (by_id sums) id)
