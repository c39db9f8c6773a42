-- When the table of sessions agrees with a trace.
use Rattle.std.specs.Prelude.{◌≡◌, ◌<◌, ◌==◌, ℕ, Bool, true, false, if◌then◌else◌, List, [], ◌∷◌, Option, Some, None, is_none, option_map}
use Rattle.std.specs.Ordering.{nat_cmp}
use Rattle.std.specs.BTreeMap.{get}
use Rattle.std.specs.BTreeSet.{contains}
use Rattle.state_collections.specs.NumberMap.{at_number}
use Rattle.amqp_model.specs.declared.perf.Begin.{Begin}
use Rattle.amqp_model.specs.declared.perf.Perf.{Perf}
use Rattle.amqp_model.specs.declared.perf.Perf.TheVariants as perf
use Rattle.amqp_session.specs.declared.states.BeginState.{BeginState}
use Rattle.amqp_session.specs.declared.window.Window.{Window}
use Rattle.amqp_session.specs.Figures.{window_of, begun, after_their_flow, after_their_transfer}
use Rattle.amqp_session.specs.Session.{Session}
use Rattle.router_trace.specs.declared.channel.PeerChannel.{PeerChannel}
use Rattle.state_sessions.specs.declared.connection.ConnectionSessions.{ConnectionSessions}
use Rattle.state_sessions.specs.declared.sessions.Sessions.{Sessions}
use Rattle.state_sessions.specs.declared.place.Place.{Place as Found}
use Rattle.state_sessions.specs.declared.place.Place.TheVariants as found
use Rattle.router_trace.specs.Trace.{Trace}
use Rattle.state_sessions.specs.Windows.{is_narrow_window}
use Rattle.router_trace.specs.Sessions.{Place, nowhere, ending, on, begin_state, flow_state, maps, answers_begin, offered, awaited, answered_channel, theirs, session}

-- what a table of sessions knows of a connection, if it knows the connection
abbrev pub offered_in : Option ConnectionSessions → Option BeginState
offered_in None = None
offered_in (Some s) = s.offered

abbrev pub awaited_in : Option ConnectionSessions → ℕ → Option BeginState
awaited_in None o = None
awaited_in (Some s) o = at_number s.awaited o

abbrev pub answered_in : Option ConnectionSessions → ℕ → Option ℕ
answered_in None o = None
answered_in (Some s) o = get nat_cmp s.answered o

abbrev pub theirs_in : Option ConnectionSessions → ℕ → Option PeerChannel
theirs_in None p = None
theirs_in (Some s) p = at_number s.theirs p

abbrev pub window_in : Option ConnectionSessions → ℕ → Option Window
window_in None o = None
window_in (Some s) o = at_number s.windows o

-- the window of a session
abbrev pub window_by : Option Session → Option Window
window_by v = option_map window_of v

-- what a performative of the peer does to the window of its session
abbrev pub heard_in_window : Perf → Window → Window
heard_in_window (perf.Flow f) w = after_their_flow (flow_state f) w
heard_in_window (perf.Transfer x) w = after_their_transfer w
heard_in_window _ w = w

-- the marks after a window was touched
abbrev pub with_mark : ℕ → Bool → (ℕ → Bool) → ℕ → Bool
with_mark conn narrow marked c = if conn == c then (if narrow then true else marked c) else marked c

abbrev pub heard_window : Perf → Bool → Option Window → Option Window
heard_window body here v = if here then option_map (heard_in_window body) v else v

-- the window of the session that a begin of the peer makes, if it answers the router's
abbrev pub answered_window : Perf → Option BeginState → Option Window
answered_window (perf.Begin b) (Some ours) = Some (begun ours (begin_state b))
answered_window _ asked = None

-- the window on a channel of the router after a performative of the peer, on a channel that stands for this
abbrev pub window_after : Perf → ℕ → Option PeerChannel → Option BeginState → Option Window → Option Window
window_after body o here asked v = if answers_begin body o here asked then answered_window body asked else heard_window body (maps here o) v

-- the window of the session that a begin of the router makes, if it answers the peer's
abbrev pub begun_window : Option BeginState → Begin → Option Window
begun_window None ours = None
begun_window (Some asked) ours = if is_none ours.remote_channel then None else Some (begun (begin_state ours) asked)

-- a connection that isn't marked has no narrow window on the router's channels
abbrev pub Marked : (ℕ → Option ConnectionSessions) → (ℕ → Bool) → Type 0
Marked known marked = (c o : ℕ) → marked c ≡ false → o < 15 → is_narrow_window (window_in (known c) o) ≡ false

-- these rows agree with the trace
pub record RowsFit (known : ℕ → Option ConnectionSessions) (t : Trace) : Type 0 where
  pub offered : (c : ℕ) → offered_in (known c) ≡ offered t c
  pub awaited : (c o : ℕ) → awaited_in (known c) o ≡ awaited t c o
  pub answered : (c o : ℕ) → answered_in (known c) o ≡ answered_channel t c o
  pub theirs : (c p : ℕ) → theirs_in (known c) p ≡ theirs t c p
  pub windows : (c o : ℕ) → window_in (known c) o ≡ window_by (session t c o)

-- the table of sessions agrees with the trace
pub record SessionsFit (s : Sessions) (t : Trace) : Type 0 where
  pub rows : RowsFit (at_number s.rows) t
  pub marks : Marked (at_number s.rows) (contains nat_cmp s.narrow)

-- a list of one value, if there is one
abbrev pub listed : {A : Type 0} → Option A → List A
listed None = []
listed (Some a) = a ∷ []

-- what was found on a channel of the peer
abbrev pub found_of : Place → Found
found_of nowhere = found.Nowhere
found_of ending = found.Ending
found_of (on own h) = found.On own (window_of h)

-- two tables know the same
pub record SameRows (old new : ℕ → Option ConnectionSessions) : Type 0 where
  pub offered : (c : ℕ) → offered_in (new c) ≡ offered_in (old c)
  pub awaited : (c o : ℕ) → awaited_in (new c) o ≡ awaited_in (old c) o
  pub answered : (c o : ℕ) → answered_in (new c) o ≡ answered_in (old c) o
  pub theirs : (c p : ℕ) → theirs_in (new c) p ≡ theirs_in (old c) p
  pub windows : (c o : ℕ) → window_in (new c) o ≡ window_in (old c) o

-- a begin
abbrev pub is_begin : Perf → Bool
is_begin (perf.Begin b) = true
is_begin _ = false
