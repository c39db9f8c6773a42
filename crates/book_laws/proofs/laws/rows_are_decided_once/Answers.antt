use Rattle.book_laws.proofs.Order.{admitted_once, decided_once, forgotten_once}
use Rattle.book_laws.proofs.laws.rows_are_decided_once.Goals as goal

pub returns-clause-admitted : goal.returns-clause-admitted
returns-clause-admitted c = admitted_once

pub returns-clause-decided : goal.returns-clause-decided
returns-clause-decided c = decided_once

pub returns-clause-forgotten : goal.returns-clause-forgotten
returns-clause-forgotten c = forgotten_once
