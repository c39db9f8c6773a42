use Rattle.journal_store.proofs.store.Store.held.Goals as goal

pub returns-clause-number : goal.returns-clause-number
returns-clause-number g c kept behind = c.held.ensures.number behind.base behind.start behind.batches behind.held behind.holds
