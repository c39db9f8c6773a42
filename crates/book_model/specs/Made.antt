-- What the book of a store is: acts made it of the empty book, each of which applied.
use Rattle.std.specs.Prelude.{◌≡◌, List, None}
use Rattle.book_model.specs.declared.act.Act.{Act}
use Rattle.book_model.specs.Book.{BookView, empty_book, first_fault, effects}

abbrev pub IsMade : BookView → Type 0
IsMade b = (acts : List Act) × (first_fault empty_book acts ≡ None) × (b ≡ effects empty_book acts)
