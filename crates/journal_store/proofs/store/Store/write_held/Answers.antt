use Rattle.journal_store.proofs.Held.{written_moments}
use Rattle.journal_store.proofs.store.Store.write_held.Goals as goal

pub returns-clause-any_moment : goal.returns-clause-any_moment
returns-clause-any_moment g c kept h =
    let T = g.T.Twin in
    written_moments T.moment T.left_since T.seen T.may_leave c.args.self.now c.write_held.new.self.twin kept c.write_held.ensures.any_moment h
