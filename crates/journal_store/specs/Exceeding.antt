-- Whether acts are too much for the journal of a book.
use Rattle.std.specs.Prelude.{Bool, false, List, [], ◌∷◌}
use Rattle.book_model.specs.declared.act.Act.{Act}
use Rattle.book_model.specs.Book.{BookView}
use Rattle.twin_journal.specs.Room.{is_full}

-- they cost more than nothing, and more than the room of this book; where there are none, nothing is written
abbrev pub exceeds : BookView → List Act → Bool
exceeds b [] = false
exceeds b (act ∷ acts) = is_full b (act ∷ acts)
