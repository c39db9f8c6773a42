use Rattle.std.proofs.Common.{◌≡◌, List}
use Rattle.std.specs.Vec.Iter.{into_iter_items}
use Rattle.router_trace.specs.Trace.{Entry}
use Rattle.router_state.specs.Tables.{TablesFit}
use Rattle.router_reply.specs.Resuming.{bound_to}
use Rattle.router_reply.proofs.resuming.bind_all.Given as goal

-- once the rest is bound too, all are
abbrev pub invariant-loop-row : goal.invariant-loop-row
invariant-loop-row l = (t : List Entry) → TablesFit l.fn.state t → (u : List Entry) × TablesFit l.state u
    × (bound_to l.at (into_iter_items l.row-iterator) u ≡ bound_to l.at l.fn.rows.items t)
