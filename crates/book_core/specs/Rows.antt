-- What is left of a walk over rows.
use Rattle.std.specs.Prelude.{List, filter}
use Rattle.book_model.specs.declared.row.Row.{Row}
use Rattle.book_core.specs.declared.rows.Rows.{Rows}
use Rattle.book_model.specs.Book.{is_wanted}
use Rattle.book_core.specs.Slots.{rows_in}

-- the rows that are still to come
abbrev pub rows_left : Rows → List Row
rows_left w = filter (is_wanted w.terminus) (rows_in w.slots.now)
