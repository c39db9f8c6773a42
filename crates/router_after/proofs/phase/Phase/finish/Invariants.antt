use Rattle.std.proofs.Common.{List}
use Rattle.router_trace.specs.Trace.{Entry}
use Rattle.router_trace.specs.Following.{repeated}
use Rattle.router_state.specs.Tables.{TablesFit}
use Rattle.router_after.specs.After.{due_in}
use Rattle.router_after.proofs.phase.Phase.finish.Given as goal

-- this many turns were done
abbrev pub invariant-loop-turn : goal.invariant-loop-turn
invariant-loop-turn l = (t : List Entry) → TablesFit l.fn.state t → TablesFit l.state (repeated (due_in l.self) l._turn t)
