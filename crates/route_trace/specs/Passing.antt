-- What passes on routed links, behind the row of an event: again and again the first frame that can go.
use Rattle.std.specs.Prelude.{ℕ, zero, suc, Bool, true, false, not, ◌&&◌, ◌||◌, ◌==◌, nat_lt, if◌then◌else◌, List, [], ◌∷◌, ◌++◌, Option, Some, None, is_some, unwrap_or}
use Rattle.amqp_model.specs.declared.item.Item.{Item}
use Rattle.amqp_session.specs.Session.{Session}
use Rattle.amqp_session.specs.declared.states.FlowState.{FlowState}
use Rattle.route_links.specs.declared.passing.Passing.{Passing}
use Rattle.route_links.specs.declared.passing.Passing.TheVariants as pass
use Rattle.route_links.specs.Parts.{is_detach}
use Rattle.router_trace.specs.declared.condition.Condition.TheVariants.{FrameSizeTooSmall, ResourceLimitExceeded}
use Rattle.router_trace.specs.Frames.{told_of}
use Rattle.router_trace.specs.LinkFrames.{fits}
use Rattle.router_trace.specs.Links.{highest_handle}
use Rattle.router_trace.specs.Peers.{largest_frame}
use Rattle.router_trace.specs.Routed.{Passage}
use Rattle.router_trace.specs.Sessions.{session}
use Rattle.router_trace.specs.Trace.{Trace, Routed}
use Rattle.route_trace.specs.declared.ends.LinkEnd.{LinkEnd}
use Rattle.route_trace.specs.declared.ends.RoutedPlace.{RoutedPlace}
use Rattle.route_trace.specs.declared.ends.Side.{Side}
use Rattle.route_trace.specs.declared.ends.Side.TheVariants.{Near, Far}
use Rattle.route_trace.specs.Ends.{End}
use Rattle.route_trace.specs.Frames.{item_for}
use Rattle.route_trace.specs.Looking.{end_of, other_side}
use Rattle.route_trace.specs.Pairs.{Pair, pair, routed_links}
use Rattle.route_trace.specs.Taking.{passed, take}

-- A frame that is first of what is held for an end: where it goes out, and when it came.
pub record First : Type 0 where
  pub end : LinkEnd
  pub place : RoutedPlace
  pub arrival : ℕ
  pub frame : Passing

abbrev pub first_with : LinkEnd → RoutedPlace → List Passing → List ℕ → Option First
first_with at place (f ∷ fs) (n ∷ ns) = Some (record { end = at; place = place; arrival = n; frame = f })
first_with at place _ _ = None

abbrev pub first_held : LinkEnd → Option End → Option First
first_held at None = None
first_held at (Some e) = first_with at e.place e.leg.queue e.arrivals

-- It can go once its session is begun. (A transfer doesn't go yet.)
abbrev pub is_transfer : Passing → Bool
is_transfer (pass.Transfer x payload) = true
is_transfer _ = false

abbrev pub can_go : Trace → First → Bool
can_go t f = is_some (session t f.place.conn.0 f.place.channel) && not (is_transfer f.frame)

abbrev pub if_can_go : Trace → Option First → Option First
if_can_go t None = None
if_can_go t (Some f) = if can_go t f then Some f else None

-- the order: by connection, by the router's channel, then as they came
abbrev pub is_sooner : First → First → Bool
is_sooner a b =
    nat_lt a.place.conn.0 b.place.conn.0
    || ((a.place.conn.0 == b.place.conn.0) && (nat_lt a.place.channel b.place.channel || ((a.place.channel == b.place.channel) && nat_lt a.arrival b.arrival)))

abbrev pub sooner : Option First → Option First → Option First
sooner None other = other
sooner (Some f) None = Some f
sooner (Some f) (Some g) = if is_sooner g f then Some g else Some f

abbrev pub first_on : Trace → ℕ → Side → Option Pair → Option First
first_on t n s None = None
first_on t n s (Some v) = if_can_go t (first_held (record { link = record { 0 = n }; side = s }) (end_of v s))

unfoldable pub first_below : ℕ → Trace → Option First
first_below zero t = None
first_below (suc n) t = sooner (sooner (first_below n t) (first_on t n Near (pair t n))) (first_on t n Far (pair t n))

abbrev pub first_due : Trace → Option First
first_due t = first_below (routed_links t) t

-- What goes out for it. An attach on a handle that the peer doesn't accept isn't put: the link is refused. Where a frame is larger than the peer
-- accepts, the link is taken away: first at the end on which the frame came, then at the other. One that sent a detach gets its detach.
abbrev pub told_at : Trace → RoutedPlace → Option Session → FlowState
told_at t at None = record { next_incoming = None; incoming_window = 0; next_outgoing = 0 }
told_at t at (Some h) = told_of h

abbrev pub item_of : Trace → First → Item
item_of t f = item_for f.place.channel f.place.handle (told_at t f.place (session t f.place.conn.0 f.place.channel)) f.frame

abbrev pub is_beyond : Trace → First → Bool
is_beyond t f = is_attach f.frame && nat_lt (unwrap_or (highest_handle t f.place.conn.0 f.place.channel) 63) f.place.handle
  where
    is_attach : Passing → Bool
    is_attach (pass.Attach a) = true
    is_attach _ = false

abbrev pub closed_by : Passing → Bool
closed_by (pass.Detach x) = x.closed
closed_by _ = true

abbrev pub cause_for : Passing → Bool
cause_for f = not (is_detach f)

abbrev pub too_large : ℕ → Side → Passing → Pair → List Passage
too_large n s f v =
    take n (other_side s) (closed_by f) (if is_detach f then None else Some FrameSizeTooSmall) v ++ take n s true (Some FrameSizeTooSmall) v

abbrev pub broken : ℕ → Side → Passing → Option Pair → List Passage
broken n s f None = []
broken n s f (Some v) = too_large n s f v

abbrev pub refused : ℕ → Option Pair → List Passage
refused n None = []
refused n (Some v) = take n Near true (Some ResourceLimitExceeded) v

abbrev pub passages : Trace → First → List Passage
passages t f =
    if is_beyond t f then refused f.end.link.0 (pair t f.end.link.0)
    else if fits (largest_frame t f.place.conn.0) (item_of t f) then passed f.end.link.0 f.end.side f.place (item_of t f) ∷ []
    else broken f.end.link.0 f.end.side f.frame (pair t f.end.link.0)

abbrev pub passing : Trace → List Passage
passing t = passing_of t (first_due t)
  where
    passing_of : Trace → Option First → List Passage
    passing_of t None = []
    passing_of t (Some f) = passages t f

-- passages as entries, in this order
abbrev pub passes_on : List Passage → Trace → Trace
passes_on [] t = t
passes_on (p ∷ ps) t = passes_on ps (Routed p ∷ t)
