use Rattle.std.proofs.Common.{◌≡◌, ◌+◌}
use Rattle.std.specs.Prelude.{count_by}
use Rattle.book_core.specs.Rows.{rows_left}
use Rattle.amqr_files.specs.Summaries.{has_state}
use Rattle.amqr_files.proofs.summary.count_rows.Given as goal

abbrev pub invariant-loop-row : goal.invariant-loop-row
invariant-loop-row l = l.count + count_by (has_state l.state) (rows_left l.row-iterator) ≡ count_by (has_state l.state) l.book.rows
