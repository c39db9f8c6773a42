use Rattle.std.proofs.Common.{◌≡◌, ◌++◌, List, drop}
use Rattle.router_trace.specs.Trace.{Entry, puts_of}
use Rattle.state_messages.specs.Messages.{grant_flows}
use Rattle.router_state.specs.Tables.{TablesFit}
use Rattle.router_state.proofs.tables.State.grants.Given as goal

-- the flows found so far, then those of the rest, are all
abbrev pub invariant-loop-grant : goal.invariant-loop-grant
invariant-loop-grant l = (t : List Entry) → TablesFit l.self t
    → puts_of l.flows.items ++ grant_flows t (drop l.grant-index l.grant-items) ≡ grant_flows t l.grant-items
