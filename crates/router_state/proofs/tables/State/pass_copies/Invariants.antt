use Rattle.std.proofs.Common.{◌≡◌, List}
use Rattle.std.specs.Vec.Iter.{into_iter_items}
use Rattle.router_trace.specs.Trace.{Entry}
use Rattle.router_state.specs.Copying.{copied_to}
use Rattle.router_state.specs.Tables.{TablesFit}
use Rattle.router_state.proofs.tables.State.pass_copies.Given as goal

-- once the rest is bound too, all are
abbrev pub invariant-loop-consumer : goal.invariant-loop-consumer
invariant-loop-consumer l = (t : List Entry) → TablesFit l.fn.self t → (u : List Entry) × TablesFit l.self u
    × (copied_to l.format l.payload (into_iter_items l.consumer-iterator) u ≡ copied_to l.fn.format l.fn.payload l.fn.to.items t)
