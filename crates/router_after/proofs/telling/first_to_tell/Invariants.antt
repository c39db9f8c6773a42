use Rattle.std.proofs.Common.{List}
use Rattle.router_trace.specs.Trace.{Entry}
use Rattle.router_trace.specs.Deliveries.{delivery, rank_at}
use Rattle.router_trace.specs.Following.{is_to_be_told}
use Rattle.router_state.specs.Tables.{TablesFit}
use Rattle.router_after.proofs.Scanning.{NoneUpTo}
use Rattle.router_after.proofs.telling.first_to_tell.Given as goal

abbrev pub invariant-loop-turn : goal.invariant-loop-turn
invariant-loop-turn l = (t : List Entry) → TablesFit l.state t → NoneUpTo (rank_at t) (λ n. is_to_be_told t (delivery t n)) l.last
