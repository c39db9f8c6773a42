use Rattle.std.proofs.Common.{◌≡◌, ◌++◌}
use Rattle.std.specs.Prelude.{flat_map}
use Rattle.book_model.specs.Restoring.{acts_of_book, row_acts}
use Rattle.book_core.specs.Rows.{rows_left}
use Rattle.book_core.proofs.book.Book.acts.Given as goal

abbrev pub invariant-loop-row : goal.invariant-loop-row
invariant-loop-row l = l.acts.items ++ flat_map row_acts (rows_left l.row-iterator) ≡ acts_of_book l.self
