-- Outboxes that are emptied: what waited there is forgotten.
use Rattle.std.specs.Prelude.{◌≡◌, ℕ, List, [], Option, Some, None}
use Rattle.state_collections.specs.NumberMap.{at_number}
use Rattle.amqp_model.specs.declared.item.Item.{Item}
use Rattle.router_trace.specs.Connection.{Connection}
use Rattle.state_connections.specs.declared.connections.Connections.{Connections}

-- a connection of which nothing waits any more
abbrev pub emptied : Connection → Connection
emptied v = record { phase = v.phase; waiting = []; taken = v.taken }

-- the items that wait in the outbox of a connection; none if the connection is unknown
abbrev pub waiting_of : Option Connection → List Item
waiting_of None = []
waiting_of (Some v) = v.waiting

-- no item waits in the outbox of any connection
abbrev pub NoneWaits : Connections → Type 0
NoneWaits s = (c : ℕ) → waiting_of (at_number s.rows c) ≡ []
