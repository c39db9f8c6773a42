-- Deliveries by place on a session: by handle, or by delivery-id.
use Rattle.std.specs.Prelude.{◌≡◌, ◌<◌, ◌≤◌, ◌^◌, ℕ, Bool, true, false, ◌==◌, ◌&&◌, ◌||◌, if◌then◌else◌, Option, Some, None, List, map}
use Rattle.std.specs.Ordering.{nat_cmp, ordering_then}
use Rattle.std.specs.declared.cmp.Ordering.{Ordering}
use Rattle.std.specs.BTreeSet.{contains}
use Rattle.amqp_session.specs.Ranges.{in_range}
use Rattle.router_trace.specs.declared.binding.Origin.{Origin}
use Rattle.router_trace.specs.declared.handle.Attachment.{Attachment}
use Rattle.router_trace.specs.Deliveries.{is_number}
use Rattle.state_deliveries.specs.declared.by_id.ById.{ById}
use Rattle.state_deliveries.specs.declared.change.Gone.{Gone}
use Rattle.state_deliveries.specs.declared.change.Gone.TheVariants as gone
use Rattle.state_deliveries.specs.declared.handles.Handles.{Handles}
use Rattle.state_deliveries.specs.declared.spots.Spot.{Spot}
use Rattle.state_deliveries.specs.declared.spots.Spots.{Spots}
use Rattle.state_deliveries.specs.Rowing.{in_rows}

-- a place, then a number; ordered by connection, session, handle or id, and number
abbrev pub Key : Type 0
Key = ℕ × ℕ × ℕ × ℕ

abbrev pub key_cmp : Key → Key → Ordering
key_cmp x y = ordering_then (ordering_then (ordering_then (nat_cmp x.0 y.0) (nat_cmp x.1 y.1)) (nat_cmp x.2 y.2)) (nat_cmp x.3 y.3)

abbrev pub numbers_of : List Key → List ℕ
numbers_of ks = map (λ (k : Key). k.3) ks

abbrev pub key : Spot → ℕ → Key
key p n = (p.conn, p.own, p.at, n)

-- a number is at a place
abbrev pub stands : Spots → Spot → ℕ → Bool
stands s p n = contains key_cmp s.keys (key p n)

abbrev pub same_spot : Spot → Spot → Bool
same_spot p q = (p.conn == q.conn) && ((p.own == q.own) && (p.at == q.at))

abbrev pub is_spot : Option Spot → Spot → Bool
is_spot None p = false
is_spot (Some q) p = same_spot q p

-- channels have 16 bits, handles and ids 32, and numbers 64
pub record IsSmall (p : Spot) (n : ℕ) : Type 0 where
  pub own : p.own < 2 ^ 16
  pub at : p.at < 2 ^ 32
  pub number : n < 2 ^ 64

pub record IsSmallKey (k : Key) : Type 0 where
  pub own : k.1 < 2 ^ 16
  pub at : k.2 < 2 ^ 32
  pub number : k.3 < 2 ^ 64

-- each number is at its known place, and nowhere else
pub record SpotsFit (s : Spots) (known : ℕ → Option Spot) : Type 0 where
  pub stand : (p : Spot) (n : ℕ) → stands s p n ≡ is_spot (known n) p
  pub small : (p : Spot) (n : ℕ) → stands s p n ≡ true → IsSmall p n

-- each number has the handle of its known place on that session, and none elsewhere
abbrev pub has_handle : Handles → Spot → ℕ → Bool
has_handle s p n = is_number (in_rows s.rows p.conn p.own n) p.at

pub record HandlesFit (s : Handles) (known : ℕ → Option Spot) : Type 0 where
  pub stand : (p : Spot) (n : ℕ) → has_handle s p n ≡ is_spot (known n) p

-- a place is on this session, and its handle
abbrev pub on_session : Option Spot → ℕ → ℕ → Bool
on_session None c o = false
on_session (Some p) c o = (p.conn == c) && (p.own == o)

abbrev pub handle_in : Option Spot → Option ℕ
handle_in None = None
handle_in (Some p) = Some p.at

-- a number is at an id: as the first there, or as a further one
abbrev pub is_first : ById → Spot → ℕ → Bool
is_first s p n = is_number (in_rows s.first p.conn p.own p.at) n

abbrev pub is_at_id : ById → Spot → ℕ → Bool
is_at_id s p n = is_first s p n || stands s.further p n

-- each number is at its known id, and nowhere else
pub record IdsFit (s : ById) (known : ℕ → Option Spot) : Type 0 where
  pub stand : (p : Spot) (n : ℕ) → is_at_id s p n ≡ is_spot (known n) p
  pub small : (p : Spot) (n : ℕ) → is_at_id s p n ≡ true → IsSmall p n

-- a place is between two others
pub record IsWithin (low high p : Spot) : Type 0 where
  pub conn_from : low.conn ≤ p.conn
  pub conn_to : p.conn ≤ high.conn
  pub own_from : low.own ≤ p.own
  pub own_to : p.own ≤ high.own
  pub at_from : low.at ≤ p.at
  pub at_to : p.at ≤ high.at

-- the places of a link, of the producer's link, and of the id that the producer gave
abbrev pub spot_of : Attachment → Spot
spot_of a = record { conn = a.conn.0; own = a.channel; at = a.handle }

abbrev pub on_spot : Spot → Bool → Option Spot
on_spot p holds = if holds then Some p else None

abbrev pub from_spot : Option Origin → Option Spot
from_spot None = None
from_spot (Some p) = Some (spot_of p.link)

abbrev pub id_spot : Option Origin → Option Spot
id_spot None = None
id_spot (Some p) = Some (record { conn = p.link.conn.0; own = p.link.channel; at = p.id })

-- the place of an id that the router gave on a link's session
abbrev pub own_spot : Attachment → Option ℕ → Option Spot
own_spot a None = None
own_spot a (Some id) = Some (record { conn = a.conn.0; own = a.channel; at = id })

-- a place is that of a link that ends
abbrev pub is_gone_at : Gone → Spot → Bool
is_gone_at (gone.Link c o h) p = (p.conn == c) && ((o == p.own) && (h == p.at))
is_gone_at (gone.Session c o) p = (p.conn == c) && (o == p.own)
is_gone_at (gone.Connection c) p = p.conn == c

abbrev pub is_gone_there : Gone → Option Spot → Bool
is_gone_there g None = false
is_gone_there g (Some p) = is_gone_at g p

-- a place is that of an id in this range, on a session
abbrev pub is_id_at : ℕ → ℕ → ℕ → ℕ → Spot → Bool
is_id_at c o first last p = ((p.conn == c) && (p.own == o)) && in_range first last p.at

abbrev pub is_id_there : ℕ → ℕ → ℕ → ℕ → Option Spot → Bool
is_id_there c o first last None = false
is_id_there c o first last (Some p) = is_id_at c o first last p
