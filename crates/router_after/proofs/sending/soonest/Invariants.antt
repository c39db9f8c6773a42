use Rattle.std.proofs.Common.{List}
use Rattle.router_trace.specs.Trace.{Entry}
use Rattle.router_trace.specs.Deliveries.{rank_at}
use Rattle.router_state.specs.Tables.{TablesFit}
use Rattle.router_after.specs.Soonest.{IsSoonestUpTo}
use Rattle.router_after.specs.Starting.{places}
use Rattle.router_after.proofs.sending.soonest.Given as goal

abbrev pub invariant-loop-turn : goal.invariant-loop-turn
invariant-loop-turn l = (t : List Entry) → TablesFit l.state t → IsSoonestUpTo (rank_at t) (places t) l.last l.best
