use Rattle.journal_store.proofs.Given.{told_by}
use Rattle.journal_store.proofs.Writing.{some_of}
use Rattle.journal_store.proofs.store.Store.exceeds.Goals as goal

pub returns-in_default : goal.returns-in_default
returns-in_default g c =
    told_by _ _ c.args.acts.now c.book.ensures.same c.args.self.now.journal _ (some_of c.args.acts.now c.in_default.len_at_least) c.is_full.ensures
