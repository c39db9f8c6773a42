use Rattle.std.proofs.Common.{◌≡◌, ◌++◌, List, drop}
use Rattle.router_trace.specs.Trace.{Entry, puts_of}
use Rattle.state_sessions.specs.Windows.{windows_over}
use Rattle.router_state.specs.Tables.{TablesFit}
use Rattle.router_state.proofs.tables.State.windows.Given as goal

-- the flows found so far, then those of the rest, are all
abbrev pub invariant-loop-conn : goal.invariant-loop-conn
invariant-loop-conn l = (t : List Entry) → TablesFit l.self t
    → puts_of l.flows.items ++ windows_over t (drop l.conn-index l.conn-items) ≡ windows_over t l.conn-items
