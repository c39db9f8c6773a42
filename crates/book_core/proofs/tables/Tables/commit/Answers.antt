use Rattle.book_core.proofs.Steps.{swept}
use Rattle.book_core.proofs.tables.Tables.commit.Goals as goal

pub returns-clause-shows : goal.returns-clause-shows
returns-clause-shows c b s =
    swept c.args.self.now c.commit.new.self c.commit-2.new.self c.commit-3.new.self c.commit-4.new.self b s (rw c.commit.ensures.slots c.sweep_termini.ensures) (rw c.commit-2.ensures.slots c.sweep_rows.ensures) c.commit-3.ensures.same c.commit-4.ensures.indexed
