-- When the table of connections agrees with a trace.
use Rattle.std.specs.Prelude.{◌≡◌, ℕ, true, false, length, Option, Some, None}
use Rattle.router_trace.specs.declared.event.Event.{Event}
use Rattle.state_connections.specs.declared.row.Taken.{Taken}
use Rattle.state_connections.specs.declared.connections.Connections.{Connections}
use Rattle.router_trace.specs.Trace.{Trace, ups, newest}
use Rattle.router_trace.specs.Connection.{Connection, Batched, conn, found, live, live_of, is_full, has}
use Rattle.router_trace.specs.Refusing.{reaches}
pub use Rattle.state_collections.specs.Among.{IsLeast}
pub use Rattle.state_collections.specs.NumberMap.{at_number}

-- the table of connections agrees with the trace
pub record ConnectionsFit (s : Connections) (t : Trace) : Type 0 where
  pub rows : (c : ℕ) → at_number s.rows c ≡ conn t c
  pub live : s.live.items ≡ live t
  pub last : s.newest ≡ newest t
  pub rise : (c : ℕ) → has c (ups t) ≡ true → reaches c (newest t) ≡ true
  pub roomy : s.roomy ≡ true → (c : ℕ) → is_full (conn t c) ≡ false

-- the table of connections is what an event finds after the trace
pub record ConnectionsAt (s : Connections) (t : Trace) (e : Event) : Type 0 where
  pub rows : (c : ℕ) → at_number s.rows c ≡ found t e c
  pub live : s.live.items ≡ live_of (ups t) (found t e)
  pub last : s.newest ≡ newest t
  pub rise : (c : ℕ) → has c (ups t) ≡ true → reaches c (newest t) ≡ true
  pub roomy : s.roomy ≡ true → (c : ℕ) → is_full (found t e c) ≡ false

-- what is taken of the outbox of a connection, if the connection is known
abbrev pub IsBatch : ℕ → Option Connection → Option Taken → Type 0
IsBatch most None None = Unit {0}
IsBatch most None (Some taken) = ⊥
IsBatch most (Some v) None = ⊥
IsBatch most (Some v) (Some taken) = Batched v most taken.first taken.items.items taken.ended

-- how many items were taken
abbrev pub count : Option Taken → ℕ
count None = 0
count (Some taken) = length taken.items.items
