-- What the places of a table show.
use Rattle.std.specs.Prelude.{List, filter_map}
use Rattle.book_model.specs.declared.row.Row.{Row}
use Rattle.book_core.specs.declared.slot.RowSlot.{RowSlot}
use Rattle.book_core.specs.declared.slot.TerminusSlot.{TerminusSlot}
use Rattle.book_model.specs.declared.terminus.Terminus.{Terminus}

-- the rows that stand in these places
abbrev pub rows_in : List RowSlot → List Row
rows_in = filter_map (λ s. s.row)

-- the termini that stand in these places
abbrev pub termini_in : List TerminusSlot → List Terminus
termini_in = filter_map (λ s. s.terminus)
