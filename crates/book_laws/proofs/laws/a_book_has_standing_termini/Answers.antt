use Rattle.book_laws.proofs.Facts.{termini_are, terminus_is, terminus_of_key_is, one_terminus}
use Rattle.book_laws.proofs.laws.a_book_has_standing_termini.Goals as goal

pub returns-clause-termini : goal.returns-clause-termini
returns-clause-termini c = termini_are

pub returns-clause-number : goal.returns-clause-number
returns-clause-number c = terminus_is

pub returns-clause-key : goal.returns-clause-key
returns-clause-key c = terminus_of_key_is

pub returns-clause-one : goal.returns-clause-one
returns-clause-one c = one_terminus
