use Rattle.book_laws.proofs.KeptSound.{acts_keep}
use Rattle.book_core.proofs.Steps.{shown_is, whole, undone_whole}
use Rattle.book_core.proofs.book.Book.apply.Goals as goal

pub invariant_of-self : goal.invariant_of-self
invariant_of-self c =
    let ran = c.in-Ok.ensures.run _ c.self.invariant.shows in
    whole _ _ (c.commit.ensures.shows _ ran.1) c.commit.ensures.settled (acts_keep _ _ ran.0 c.self.invariant.sound)

pub returns-in-Ok-clause-applied : goal.returns-in-Ok-clause-applied
returns-in-Ok-clause-applied c =
    let ran = c.in-Ok.ensures.run _ c.self.invariant.shows in
    rw (← c.self.view_is) (shown_is _ _ (c.commit.ensures.shows _ ran.1))

pub invariant_of-self-in-Err : goal.invariant_of-self-in-Err
invariant_of-self-in-Err c =
    let back = c.rollback.ensures in
    undone_whole c.self.inside.tables c.run.new.self c.rollback.new.self c.self.invariant c.in-Err.ensures.before back.termini back.rows back.keys back.index back.counters back.settled
