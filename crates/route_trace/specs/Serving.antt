-- Which connection serves a link route, and the session that the router has there.
use Rattle.std.specs.Prelude.{ℕ, Bool, true, false, ◌&&◌, ◌==◌, bytes_eq, if◌then◌else◌, is_none, List, [], ◌∷◌, Option, Some, None}
use Rattle.std.specs.List.{find}
use Rattle.amqp_model.specs.declared.item.Item.{Item}
use Rattle.amqp_model.specs.declared.item.Item.TheVariants as item
use Rattle.amqp_model.specs.declared.perf.Attach.{Attach}
use Rattle.amqp_model.specs.declared.perf.Perf.{Perf}
use Rattle.amqp_model.specs.declared.perf.Perf.TheVariants as perf
use Rattle.amqp_model.specs.declared.perf.Role.{Role}
use Rattle.amqp_model.specs.declared.perf.Role.TheVariants.{Sender, Receiver}
use Rattle.route_table.specs.Places.{Routing, route_in_of, route_out_of}
use Rattle.router_trace.specs.declared.event.Event.{Event}
use Rattle.router_trace.specs.declared.event.Event.TheVariants as event
use Rattle.router_trace.specs.declared.event.PeerRole.{PeerRole}
use Rattle.router_trace.specs.declared.event.PeerRole.TheVariants.{RouteContainer}
use Rattle.router_trace.specs.Configuration.{routing}
use Rattle.router_trace.specs.Connection.{conn, is_live}
use Rattle.router_trace.specs.Links.{source_address, target_address}
use Rattle.router_trace.specs.Peers.{Container, container}
use Rattle.router_trace.specs.Trace.{Did, Out, Took, Bound, Booked, Routed, Began, Trace, ups}

-- the role with which a connection came up
abbrev pub role_at : Event → ℕ → Option PeerRole → Option PeerRole
role_at (event.Up d p) c role = if d.0 == c then Some p.role else role
role_at (event.Down d) c role = if d.0 == c then None else role
role_at _ c role = role

abbrev pub role : Trace → ℕ → Option PeerRole
role [] c = None
role (Did s ∷ t) c = role_at s.event c (role t c)
role (Out d i ∷ t) c = role t c
role (Took d n ∷ t) c = role t c
role (Bound b ∷ t) c = role t c
role (Booked acts full ∷ t) c = role t c
role (Routed passage ∷ t) c = role t c
role (Began g ∷ t) c = None

abbrev pub is_container : Option PeerRole → Bool
is_container (Some RouteContainer) = true
is_container _ = false

-- its open told this container-id
abbrev pub told_id : List ℕ → Option Container → Bool
told_id id None = false
told_id id (Some told) = bytes_eq told.id id

-- The connection that serves a container-id: of the live ones that came up as route-containers and told it, the one that came up first.
abbrev pub can_serve : Trace → List ℕ → ℕ → Bool
can_serve t id c = is_live (conn t c) && (is_container (role t c) && told_id id (container t c))

abbrev pub serves : Trace → List ℕ → Option ℕ
serves t id = find (can_serve t id) (ups t)

-- The router's channel of the session that it began on a connection, from its begin on.
abbrev pub own_session_in : Perf → ℕ → Option ℕ → Option ℕ
own_session_in (perf.Begin b) own at = if is_none b.remote_channel then Some own else unless_channel own at
  where
    unless_channel : ℕ → Option ℕ → Option ℕ
    unless_channel own None = None
    unless_channel own (Some o) = if own == o then None else Some o
own_session_in (perf.End x) own None = None
own_session_in (perf.End x) own (Some o) = if own == o then None else Some o
own_session_in (perf.Close x) own at = None
own_session_in _ own at = at

abbrev pub own_session_after : Item → Option ℕ → Option ℕ
own_session_after (item.Frame sasl own body payload) at = own_session_in body own at
own_session_after _ at = at

abbrev pub lost : Event → ℕ → Option ℕ → Option ℕ
lost (event.Down d) c at = if d.0 == c then None else at
lost _ c at = at

abbrev pub own_session : Trace → ℕ → Option ℕ
own_session [] c = None
own_session (Did s ∷ t) c = lost s.event c (own_session t c)
own_session (Out d i ∷ t) c = if d == c then own_session_after i (own_session t c) else own_session t c
own_session (Took d n ∷ t) c = own_session t c
own_session (Bound b ∷ t) c = own_session t c
own_session (Booked acts full ∷ t) c = own_session t c
own_session (Routed passage ∷ t) c = own_session t c
own_session (Began g ∷ t) c = None

-- The container-id to which an attach is routed, if it is: its address is the target's where the peer is the sender, else the source's.
abbrev pub route_in : Routing → Option (List ℕ) → Option (List ℕ)
route_in places None = None
route_in places (Some address) = route_in_of places address

abbrev pub route_out : Routing → Option (List ℕ) → Option (List ℕ)
route_out places None = None
route_out places (Some address) = route_out_of places address

abbrev pub route_by : Role → Routing → Attach → Option (List ℕ)
route_by Sender places a = route_in places (target_address a.target)
route_by Receiver places a = route_out places (source_address a.source)

abbrev pub route_for : Trace → Attach → Option (List ℕ)
route_for t a = route_by a.role (routing t) a
