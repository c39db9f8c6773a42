use Rattle.std.proofs.Common.{◌≡◌, ◌+◌}
use Rattle.std.specs.Prelude.{sum_by}
use Rattle.book_core.specs.Rows.{rows_left}
use Rattle.gate_journal.specs.Reserve.{row_reserve}
use Rattle.gate_journal.proofs.figures.reserve_of_rows.Given as goal

abbrev pub invariant-loop-row : goal.invariant-loop-row
invariant-loop-row l = l.total + sum_by row_reserve (rows_left l.row-iterator) ≡ sum_by row_reserve l.book.rows
