use Rattle.std.proofs.Common.{◌≡◌, List}
use Rattle.std.specs.Vec.Iter.{into_iter_items}
use Rattle.router_trace.specs.Trace.{Entry, goes, puts_of}
use Rattle.router_state.specs.Tables.{TablesFit}
use Rattle.router_state.proofs.tables.State.put_all.Given as goal

-- once the rest is put too, all are
abbrev pub invariant-loop-outgoing : goal.invariant-loop-outgoing
invariant-loop-outgoing l = (t : List Entry) → TablesFit l.fn.self t → (u : List Entry) × TablesFit l.self u
    × (goes (puts_of (into_iter_items l.outgoing-iterator)) u ≡ goes (puts_of l.fn.items.items) t)
