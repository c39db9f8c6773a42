-- Where claims stand: the ids of each link, and how many of them are unbound.
use Rattle.std.specs.Prelude.{ℕ, Bool, false, if◌then◌else◌, Option, Some, None}
use Rattle.router_trace.specs.Counting.{IsCount}
use Rattle.router_trace.specs.Deliveries.{is_number}
use Rattle.state_unsettled.specs.declared.by_link.ByLink.{ByLink}
use Rattle.state_unsettled.specs.declared.by_link.OfLink.{OfLink}
use Rattle.state_unsettled.specs.declared.by_link.Stand.{Stand}
use Rattle.state_collections.specs.NumberSet.{has}
use Rattle.state_collections.specs.Places.{at}

-- the handle of a link, and of a link whose unbound claims count it
abbrev pub link_of : Option Stand → Option ℕ
link_of None = None
link_of (Some p) = Some p.handle

abbrev pub unbound_of : Option Stand → Option ℕ
unbound_of None = None
unbound_of (Some p) = if p.unbound then Some p.handle else None

-- what a link has
abbrev pub has_id : Option OfLink → ℕ → Bool
has_id None id = false
has_id (Some r) id = has r.ids id

abbrev pub unbound_in : Option OfLink → ℕ
unbound_in None = 0
unbound_in (Some r) = r.unbound

abbrev pub is_marked : ByLink → ℕ → ℕ → ℕ → ℕ → Bool
is_marked s c o h id = has_id (at s.rows c o h) id

abbrev pub count_at : ByLink → ℕ → ℕ → ℕ → ℕ
count_at s c o h = unbound_in (at s.rows c o h)

-- of each link it is the number of the ids that are known to be on it
abbrev pub IsCounted : ByLink → (ℕ → ℕ → ℕ → Option ℕ) → Type 0
IsCounted s known = (c o h : ℕ) → IsCount (λ id. is_number (known c o id) h) (count_at s c o h)
