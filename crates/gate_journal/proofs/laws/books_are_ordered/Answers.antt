use Rattle.gate_journal.proofs.Nexts.{after_ordered, made_ordered}
use Rattle.gate_journal.proofs.laws.books_are_ordered.Goals as goal

pub returns-clause-batches : goal.returns-clause-batches
returns-clause-batches c = after_ordered

pub returns-clause-acts : goal.returns-clause-acts
returns-clause-acts c = made_ordered
