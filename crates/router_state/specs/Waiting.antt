-- What waits in the outboxes.
use Rattle.std.specs.Prelude.{◌≡◌, ℕ, []}
use Rattle.state_connections.specs.Fits.{at_number}
use Rattle.state_connections.specs.Emptied.{waiting_of}
use Rattle.router_state.specs.declared.tables.State.{State}

-- no item waits in the outbox of any connection
abbrev pub NothingWaits : State → Type 0
NothingWaits s = (c : ℕ) → waiting_of (at_number s.connections.rows c) ≡ []
