use Rattle.std.proofs.Common.{List}
use Rattle.router_trace.specs.Trace.{Entry}
use Rattle.router_trace.specs.Numbers.{no_rank}
use Rattle.router_state.specs.Tables.{TablesFit}
use Rattle.router_after.specs.Draining.{drains_at}
use Rattle.router_after.specs.Soonest.{IsSoonestUpTo}
use Rattle.router_after.proofs.draining.soonest.Given as goal

abbrev pub invariant-loop-turn : goal.invariant-loop-turn
invariant-loop-turn l = (t : List Entry) → TablesFit l.state t → IsSoonestUpTo no_rank (drains_at t) l.last l.best
