use Rattle.book_laws.proofs.Facts.{row_named_is, one_standing, standing_row_said}
use Rattle.book_laws.proofs.laws.tags_name_one_row.Goals as goal

pub returns-clause-row : goal.returns-clause-row
returns-clause-row c = row_named_is

pub returns-clause-one : goal.returns-clause-one
returns-clause-one c = one_standing

pub returns-clause-number : goal.returns-clause-number
returns-clause-number c = standing_row_said
