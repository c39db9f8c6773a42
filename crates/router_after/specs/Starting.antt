-- Which deliveries of a link go on or start.
use Rattle.std.specs.Prelude.{ℕ, Bool, false, not, ◌&&◌, ◌||◌, ◌==◌, is_none, Option, Some, None}
use Rattle.router_trace.specs.declared.handle.Attachment.{Attachment}
use Rattle.router_trace.specs.Trace.{Trace}
use Rattle.router_trace.specs.Deliveries.{Delivery, delivery, named, next_id}
use Rattle.router_trace.specs.Following.{link_of, is_going, takes_more, is_busy, is_used, place_to_go}

abbrev pub is_same : Attachment → Attachment → Bool
is_same a b = (a.number == b.number) && ((a.conn.0 == b.conn.0) && ((a.channel == b.channel) && (a.handle == b.handle)))

-- it has begun on this link and goes on
abbrev pub goes_on_from : Trace → Attachment → ℕ → Option Delivery → Bool
goes_on_from t a n None = false
goes_on_from t a n (Some d) = is_same d.link a && is_going t n d

-- it waits on this link
abbrev pub waits_at : Attachment → Option Delivery → Bool
waits_at a None = false
waits_at a (Some d) = is_same d.link a && (is_none d.id && d.going_on)

-- a waiting delivery can start on this link
abbrev pub starts_from : Trace → Attachment → Bool
starts_from t a = takes_more (link_of t a) a.number && (not (is_busy t a.conn.0 a.channel) && not (is_used t (named t a.conn.0 a.channel (next_id t a.conn.0 a.channel))))

-- it goes on or can start on this link, and its session's window is open
abbrev pub goes_from : Trace → Attachment → ℕ → Option Delivery → Bool
goes_from t a n v = goes_on_from t a n v || (waits_at a v && starts_from t a)

-- the place of each delivery that can be sent
abbrev pub places : Trace → ℕ → Option Attachment
places t n = place_to_go t n (delivery t n)
