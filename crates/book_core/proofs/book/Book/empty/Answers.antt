use Rattle.book_model.specs.Book.{empty_book}
use Rattle.book_laws.proofs.KeptSound.{empty_sound}
use Rattle.book_core.proofs.Steps.{whole}
use Rattle.book_core.proofs.book.Book.empty.Goals as goal

pub invariant_of-result : goal.invariant_of-result
invariant_of-result c = whole c.new.result empty_book c.new.ensures.shows c.new.ensures.settled empty_sound
