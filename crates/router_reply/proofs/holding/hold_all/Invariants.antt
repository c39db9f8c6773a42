use Rattle.std.proofs.Common.{◌≡◌, List}
use Rattle.std.specs.Prelude.{filter}
use Rattle.book_core.specs.Rows.{rows_left}
use Rattle.book_model.specs.Book.{is_from}
use Rattle.router_trace.specs.Trace.{Entry}
use Rattle.router_state.specs.Tables.{TablesFit}
use Rattle.router_reply.specs.Holding.{held_to}
use Rattle.router_reply.proofs.holding.hold_all.Given as goal

-- once the link has the rest too, it has all
abbrev pub invariant-loop-row : goal.invariant-loop-row
invariant-loop-row l = (t : List Entry) → TablesFit l.fn.state t → (u : List Entry) × TablesFit l.state u
    × (held_to l.at (filter (is_from l.terminus.0) (rows_left l.row-iterator)) u ≡ held_to l.at (filter (is_from l.terminus.0) (rows_left l.fn.rows)) t)
