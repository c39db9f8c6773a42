use Rattle.book_laws.proofs.Order.{made_once, dropped_once}
use Rattle.book_laws.proofs.laws.termini_are_made_once.Goals as goal

pub returns-clause-made : goal.returns-clause-made
returns-clause-made c = made_once

pub returns-clause-dropped : goal.returns-clause-dropped
returns-clause-dropped c = dropped_once
