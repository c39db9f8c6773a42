use Rattle.book_laws.proofs.Facts.{rows_are, row_is}
use Rattle.book_laws.proofs.laws.a_book_has_what_is_open.Goals as goal

pub returns-clause-rows : goal.returns-clause-rows
returns-clause-rows c = rows_are

pub returns-clause-row : goal.returns-clause-row
returns-clause-row c = row_is
