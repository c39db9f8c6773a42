-- A book whose numbers rise, as that of each book is which acts made of nothing.
use Rattle.std.specs.Prelude.{ℕ, ◌<◌}
use Rattle.book_model.specs.declared.row.Row.{Row}
use Rattle.book_model.specs.declared.terminus.Terminus.{Terminus}
use Rattle.book_model.specs.Book.{BookView}
use Rattle.book_core.specs.Rising.{Rises, AllAbove, AllBelow}

abbrev pub number_of_row : Row → ℕ
number_of_row r = r.number.0

abbrev pub number_of_terminus : Terminus → ℕ
number_of_terminus t = t.number.0

-- the numbers of its rows and of its termini rise, below those that come next, and those of termini from 1
pub record IsOrdered (b : BookView) : Type 0 where
  pub rows_rise : Rises number_of_row b.rows
  pub rows_below : AllBelow number_of_row b.next_row b.rows
  pub termini_rise : Rises number_of_terminus b.termini
  pub termini_below : AllBelow number_of_terminus b.next_terminus b.termini
  pub termini_above : AllAbove number_of_terminus 0 b.termini
  pub next_above : 0 < b.next_terminus
