-- Choice and grants as functions of the pool.
use Rattle.std.specs.Prelude.{◌-◌, ◌+◌, ℕ, zero, suc, Bool, true, false, Option, None, Some, option_and_then, nat_lt, nat_le, List, [], ◌∷◌, map, filter, if◌then◌else◌}
use Rattle.std.specs.Map.{keys_of}
use Rattle.route_credit.specs.Links.{link_at, total}
use Rattle.route_credit.specs.Pool.{given, is_short, need, Sharing, turn, unused_at}
use Rattle.route_credit.specs.declared.demand.Demand.{Demand}

-- whether there is a figure that isn't above the other
abbrev pub is_sooner : Option ℕ → Option ℕ → Bool
is_sooner None other = false
is_sooner (Some n) None = true
is_sooner (Some n) (Some m) = nat_le n m

-- of the numbers in a list the one with the lowest figure; of several, the one that comes first
abbrev pub least : {X : Type 0} → (ℕ → Option ℕ) → List (ℕ × X) → Option ℕ
least figure [] = None
least figure (link ∷ links) = if is_sooner (figure link.0) (option_and_then figure (least figure links)) then Some link.0 else least figure links

-- the consumer that is chosen
abbrev pub choice : Sharing → Option ℕ
choice pool = least (turn pool) pool.consumers

-- the producer that is given credit next
abbrev pub next : Sharing → Option ℕ
next pool = if is_short pool then least (need pool) pool.producers else None

-- the pool where this producer was given its part
abbrev pub given_to : Sharing → ℕ → Option Demand → Sharing
given_to pool id None = pool
given_to pool id (Some demand) = given pool id demand

abbrev pub granted : Sharing → Option ℕ → Sharing
granted pool None = pool
granted pool (Some id) = given_to pool id (link_at pool.producers id)

-- how much could be granted at most
abbrev pub room : Sharing → ℕ
room pool = total (λ demand. 64 + demand.due - demand.unused) pool.producers

-- the pool after this many grants, each to the producer that is next
abbrev pub granting : ℕ → Sharing → Sharing
granting zero pool = pool
granting (suc n) pool = granting n (granted pool (next pool))

-- the pool after all grants: there are no more than there is room for
abbrev pub all_granted : Sharing → Sharing
all_granted pool = granting (room pool) pool

-- how much a producer got between two pools
abbrev pub gain : Sharing → Sharing → ℕ → ℕ
gain old new id = unused_at new id - unused_at old id

-- of these links those that got some, and how much
abbrev pub gains : (ℕ → ℕ) → List ℕ → List (ℕ × ℕ)
gains amount ids = filter (λ sum. nat_lt 0 sum.1) (map (λ id. (id, amount id)) ids)

-- what the producers of a pool are granted, in order of attach
abbrev pub grants_of : Sharing → List (ℕ × ℕ)
grants_of pool = gains (gain pool (all_granted pool)) (keys_of pool.producers)
