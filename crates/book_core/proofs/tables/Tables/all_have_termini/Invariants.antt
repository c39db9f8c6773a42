use Rattle.std.proofs.Common.{◌≡◌}
use Rattle.std.specs.List.{list_all}
use Rattle.book_model.specs.Book.{BookView}
use Rattle.book_model.specs.Restoring.{has_termini}
use Rattle.book_core.specs.Rows.{rows_left}
use Rattle.book_core.specs.Tables.{Shows}
use Rattle.book_core.proofs.tables.Tables.all_have_termini.Given as goal

abbrev pub invariant-loop-row : goal.invariant-loop-row
invariant-loop-row l = (b : BookView) → Shows l.self b
    → list_all (has_termini b.termini) (rows_left l.row-iterator) ≡ list_all (has_termini b.termini) b.rows
