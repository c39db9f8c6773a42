use Rattle.book_core.proofs.Steps.{admits}
use Rattle.book_core.proofs.tables.Tables.perform.Goals as goal

pub returns-in-Decide-clause-shows : goal.returns-in-Decide-clause-shows
returns-in-Decide-clause-shows c b s r = rw c.in-Decide.is (c.decide.ensures.shows b s (rw c.in-Decide.is at r))

pub returns-in-Admit-clause-shows : goal.returns-in-Admit-clause-shows
returns-in-Admit-clause-shows c b s r = rw c.in-Admit.is (c.admit.ensures.shows b s (admits b c.in-Admit.admission
    (rw c.in-Admit.is at r)))
