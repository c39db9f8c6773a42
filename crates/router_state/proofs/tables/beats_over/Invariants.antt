use Rattle.std.proofs.Common.{◌≡◌, ◌++◌, List, drop}
use Rattle.router_trace.specs.Trace.{Entry, puts_of}
use Rattle.state_connections.specs.Timing.{ClocksFit}
use Rattle.router_state.specs.Tables.{beats_over}
use Rattle.router_state.proofs.tables.beats_over.Given as goal

-- the heartbeats found so far, then those of the rest, are all
abbrev pub invariant-loop-conn : goal.invariant-loop-conn
invariant-loop-conn l = (t : List Entry) → ClocksFit l.clocks t
    → puts_of l.due.items ++ beats_over t l.now (drop l.conn-index l.conns) ≡ beats_over t l.now l.conns
