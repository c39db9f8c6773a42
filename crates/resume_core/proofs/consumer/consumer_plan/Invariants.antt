use Rattle.std.proofs.Common.{◌≡◌, ◌++◌}
use Rattle.std.specs.Prelude.{filter}
use Rattle.std.specs.Option.{option_copied}
use Rattle.book_core.specs.Rows.{rows_left}
use Rattle.book_model.specs.Book.{is_for}
use Rattle.resume_core.specs.Resuming.{entries_of, decisions, consumer_map, sendings}
use Rattle.resume_core.proofs.consumer.consumer_plan.Given as goal

-- what was gathered, and what the rows that are left give
abbrev pub invariant-loop-row : goal.invariant-loop-row
invariant-loop-row l =
    (l.plan.decisions.items ++ decisions (entries_of (option_copied l.fn.unsettled)) (filter (is_for l.terminus.0) (rows_left l.row-iterator)) ≡ decisions (entries_of (option_copied l.fn.unsettled)) (filter (is_for l.terminus.0) (rows_left l.fn.rows)))
    × (l.plan.map.items ++ consumer_map (entries_of (option_copied l.fn.unsettled)) (filter (is_for l.terminus.0) (rows_left l.row-iterator)) ≡ consumer_map (entries_of (option_copied l.fn.unsettled)) (filter (is_for l.terminus.0) (rows_left l.fn.rows)))
    × (l.plan.sendings.items ++ sendings l.complete (entries_of (option_copied l.fn.unsettled)) (filter (is_for l.terminus.0) (rows_left l.row-iterator)) ≡ sendings l.complete (entries_of (option_copied l.fn.unsettled)) (filter (is_for l.terminus.0) (rows_left l.fn.rows)))
