-- What the index of the links of an address contains.
use Rattle.std.specs.Prelude.{◌≡◌, ◌==◌, ◌+◌, ℕ, Bool, false, Option, None, Some, List, option_and_then, if◌then◌else◌, nat_lt}
use Rattle.std.specs.BTreeSet.{contains}
use Rattle.std.specs.Ordering.{nat_cmp, ordering_then}
use Rattle.std.specs.declared.cmp.Ordering.{Ordering}
use Rattle.route_credit.specs.Few.{count, once}
use Rattle.route_credit.specs.Links.{link_at}
use Rattle.route_credit.specs.declared.offer.Offer.{Offer}
use Rattle.route_table.specs.declared.sections.Distribution.{Distribution}
use Rattle.route_table.specs.declared.sections.Distribution.TheVariants.{Balanced, Closest, Multicast}
use Rattle.route_credit.specs.declared.place.Place.{Place}
use Rattle.route_credit.specs.declared.ranking.Ranking.{Ranking}

-- by rank, and then by link
abbrev pub place_cmp : Place → Place → Ordering
place_cmp a b = ordering_then (nat_cmp a.rank b.rank) (nat_cmp a.id b.id)

-- how often the index has a place, in the array and in the ordered set
abbrev pub times : Ranking → Place → ℕ
times ranking place = count ranking.few.places place + once (contains place_cmp ranking.more place)

abbrev pub is_rank : Option ℕ → ℕ → Bool
is_rank None rank = false
is_rank (Some r) rank = r == rank

-- the ranks, except one link's
abbrev pub ranked : (ℕ → Option ℕ) → ℕ → Option ℕ → ℕ → Option ℕ
ranked ranks id rank other = if id == other then rank else ranks other

-- the index has the places of exactly these ranks, each once
abbrev pub Ranks : Ranking → (ℕ → Option ℕ) → Type 0
Ranks ranking ranks = (place : Place) → times ranking place ≡ once (is_rank (ranks place.id) place.rank)

-- the rank of each link
abbrev pub rank_at : {X : Type 0} → (X → Option ℕ) → List (ℕ × X) → ℕ → Option ℕ
rank_at rank links id = option_and_then rank (link_at links id)

-- the ranks of the links after this one
abbrev pub behind : ℕ → (ℕ → Option ℕ) → ℕ → Option ℕ
behind id ranks other = if nat_lt id other then ranks other else None

-- the rank of a consumer: where it has free credit, its undecided deliveries; where they go round, or each gets a copy, all are alike
abbrev pub offer_rank : Distribution → Offer → Option ℕ
offer_rank Balanced offer = if nat_lt 0 offer.free then Some offer.undecided else None
offer_rank Closest offer = if nat_lt 0 offer.free then Some 0 else None
offer_rank Multicast offer = if nat_lt 0 offer.free then Some 0 else None
