-- When all of the router's tables agree with a trace.
use Rattle.std.specs.Prelude.{◌≡◌, ℕ, Bool, if◌then◌else◌, List, [], ◌∷◌, ◌++◌}
use Rattle.router_trace.specs.declared.event.Event.{Event}
use Rattle.router_state.specs.declared.tables.State.{State}
use Rattle.router_trace.specs.Trace.{Trace, Put, ups}
use Rattle.router_trace.specs.Frames.{beat_item}
use Rattle.router_trace.specs.Clocks.{terms, written, needs_beat}
use Rattle.router_trace.specs.Connection.{conn, due, found, live_of, is_ready}
use Rattle.state_connections.specs.Fits.{ConnectionsFit, ConnectionsAt}
use Rattle.state_connections.specs.Noting.{is_noted}
use Rattle.state_connections.specs.Peering.{PeersFit}
use Rattle.state_connections.specs.Timing.{ClocksFit}
use Rattle.state_messages.specs.Fits.{MessagesFit}
use Rattle.state_sessions.specs.Fits.{SessionsFit}

-- all tables agree with the trace
pub record TablesFit (s : State) (t : Trace) : Type 0 where
  pub connections : ConnectionsFit s.connections t
  pub ready : (c : ℕ) → is_noted s.ready c ≡ is_ready (conn t c)
  pub clocks : ClocksFit s.clocks t
  pub peers : PeersFit s.peers t
  pub sessions : SessionsFit s.sessions t
  pub messages : MessagesFit s.messages t

-- the tables by which an item is answered agree with the trace: all but those of the connections
pub record TablesFind (s : State) (t : Trace) : Type 0 where
  pub clocks : ClocksFit s.clocks t
  pub peers : PeersFit s.peers t
  pub sessions : SessionsFit s.sessions t
  pub messages : MessagesFit s.messages t

abbrev pub fit_finds : {s : State} {t : Trace} → TablesFit s t → TablesFind s t
fit_finds f = record { clocks = f.clocks; peers = f.peers; sessions = f.sessions; messages = f.messages }

-- all tables are what an event finds after the trace; it ends these connections first
pub record TablesAt (s : State) (t : Trace) (e : Event) (ends : List ℕ) : Type 0 where
  pub connections : ConnectionsAt s.connections t e
  pub ready : (c : ℕ) → is_noted s.ready c ≡ is_ready (found t e c)
  pub clocks : ClocksFit s.clocks t
  pub peers : PeersFit s.peers t
  pub sessions : SessionsFit s.sessions t
  pub messages : MessagesFit s.messages t
  pub are_due : ends ≡ due t e

abbrev pub at_finds : {s : State} {t : Trace} {e : Event} {ends : List ℕ} → TablesAt s t e ends → TablesFind s t
at_finds f = record { clocks = f.clocks; peers = f.peers; sessions = f.sessions; messages = f.messages }

-- the heartbeats that are due at a moment on these connections, by number
abbrev pub beat_if : Bool → ℕ → List Put
beat_if needed c = if needed then record { conn = c; item = beat_item } ∷ [] else []

abbrev pub beats_over : Trace → ℕ → List ℕ → List Put
beats_over t now [] = []
beats_over t now (c ∷ cs) = beat_if (needs_beat (terms t c) (written t c) now) c ++ beats_over t now cs

abbrev pub beats : Trace → Event → ℕ → List Put
beats t e now = beats_over t now (live_of (ups t) (found t e))
