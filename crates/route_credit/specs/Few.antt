-- Places among a few, and the first of those that a function counts.
use Rattle.std.specs.Prelude.{◌≡◌, ◌==◌, ◌<◌, ◌≤◌, ◌+◌, ◌&&◌, ◌⊎◌, ℕ, Bool, true, false, List, [], ◌∷◌, Option, Some, None}
use Rattle.route_credit.specs.declared.place.Place.{Place}

-- the place of a link with this rank
abbrev pub place_of : ℕ → Option ℕ → Option Place
place_of id None = None
place_of id (Some rank) = Some (record { rank = rank; id = id })

abbrev pub is_there : Option Place → Place → Bool
is_there None place = false
is_there (Some found) place = (found.id == place.id) && (found.rank == place.rank)

abbrev pub once : Bool → ℕ
once true = 1
once false = 0

-- how often a place is among these
unfoldable pub count : List (Option Place) → Place → ℕ
count [] place = 0
count (x ∷ xs) place = once (is_there x place) + count xs place

-- one place is before another in the order, or the same
abbrev pub IsBefore : Place → Place → Type 0
IsBefore one other = (one.rank < other.rank) ⊎ ((one.rank ≡ other.rank) × (one.id ≤ other.id))

-- the first in order of the places that are counted, if there is any
abbrev pub IsFirst : (Place → ℕ) → Option Place → Type 0
IsFirst times None = (place : Place) → times place ≡ 0
IsFirst times (Some first) = (0 < times first) × ((place : Place) → 0 < times place → IsBefore first place)
