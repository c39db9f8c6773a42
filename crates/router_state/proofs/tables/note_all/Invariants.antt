use Rattle.std.proofs.Common.{◌≡◌, ℕ, drop}
use Rattle.std.specs.Prelude.{if◌then◌else◌}
use Rattle.state_connections.specs.Fits.{at_number}
use Rattle.router_trace.specs.Connection.{is_ready, has}
use Rattle.state_connections.specs.Noting.{is_noted}
use Rattle.router_state.proofs.tables.note_all.Given as goal

-- once the rest is noted too, all are
abbrev pub invariant-loop-conn : goal.invariant-loop-conn
invariant-loop-conn l = (c : ℕ) → (if has c (drop l.conn-index l.ends) then is_ready (at_number l.connections.rows c) else is_noted l.ready c)
    ≡ (if has c l.fn.ends then is_ready (at_number l.fn.connections.rows c) else is_noted l.fn.ready c)
