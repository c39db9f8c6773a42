use Rattle.std.proofs.Common.{◌≡◌, ◌++◌}
use Rattle.std.specs.Prelude.{filter}
use Rattle.std.specs.Option.{option_copied}
use Rattle.book_core.specs.Rows.{rows_left}
use Rattle.book_model.specs.Book.{is_from}
use Rattle.resume_core.specs.Resuming.{entries_of, forgotten_rows, producer_map, due_tags}
use Rattle.resume_core.proofs.producer.producer_plan.Given as goal

-- what was gathered, and what the rows that are left give
abbrev pub invariant-loop-row : goal.invariant-loop-row
invariant-loop-row l =
    (l.plan.forgotten.items ++ forgotten_rows l.complete (entries_of (option_copied l.fn.unsettled)) (filter (is_from l.terminus.0) (rows_left l.row-iterator)) ≡ forgotten_rows l.complete (entries_of (option_copied l.fn.unsettled)) (filter (is_from l.terminus.0) (rows_left l.fn.rows)))
    × (l.plan.map.items ++ producer_map l.complete (entries_of (option_copied l.fn.unsettled)) (filter (is_from l.terminus.0) (rows_left l.row-iterator)) ≡ producer_map l.complete (entries_of (option_copied l.fn.unsettled)) (filter (is_from l.terminus.0) (rows_left l.fn.rows)))
    × (l.plan.due.items ++ due_tags l.complete (entries_of (option_copied l.fn.unsettled)) (filter (is_from l.terminus.0) (rows_left l.row-iterator)) ≡ due_tags l.complete (entries_of (option_copied l.fn.unsettled)) (filter (is_from l.terminus.0) (rows_left l.fn.rows)))
