use Rattle.twin_journal.proofs.Unique.{same_book, opened_sound}
use Rattle.twin_journal.proofs.laws.opens_to_one_book.Goals as goal

pub returns-clause-one : goal.returns-clause-one
returns-clause-one c = same_book

pub returns-clause-sound : goal.returns-clause-sound
returns-clause-sound c = opened_sound
