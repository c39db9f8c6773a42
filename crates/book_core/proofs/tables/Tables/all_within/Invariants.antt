use Rattle.std.proofs.Common.{◌≡◌}
use Rattle.std.specs.List.{list_all}
use Rattle.book_model.specs.Book.{BookView}
use Rattle.book_model.specs.Restoring.{is_within}
use Rattle.book_core.specs.Rows.{rows_left}
use Rattle.book_core.specs.Tables.{Shows}
use Rattle.book_core.proofs.tables.Tables.all_within.Given as goal

abbrev pub invariant-loop-row : goal.invariant-loop-row
invariant-loop-row l = (b : BookView) → Shows l.self b
    → list_all (is_within b.rows) (rows_left l.row-iterator) ≡ list_all (is_within b.rows) b.rows
