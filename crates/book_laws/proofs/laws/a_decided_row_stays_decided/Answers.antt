use Rattle.book_laws.proofs.Order.{decision_kept, decided_no_more, admitted_no_more, forgotten_no_more, made_no_more, dropped_no_more}
use Rattle.book_laws.proofs.laws.a_decided_row_stays_decided.Goals as goal

pub returns-clause-outcome : goal.returns-clause-outcome
returns-clause-outcome c = decision_kept

pub returns-clause-decided : goal.returns-clause-decided
returns-clause-decided c = decided_no_more

pub returns-clause-admitted : goal.returns-clause-admitted
returns-clause-admitted c = admitted_no_more

pub returns-clause-forgotten : goal.returns-clause-forgotten
returns-clause-forgotten c = forgotten_no_more

pub returns-clause-made : goal.returns-clause-made
returns-clause-made c = made_no_more

pub returns-clause-dropped : goal.returns-clause-dropped
returns-clause-dropped c = dropped_no_more
