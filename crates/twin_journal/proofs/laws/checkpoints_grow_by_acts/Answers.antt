use Rattle.twin_journal.proofs.Unique.{grows}
use Rattle.twin_journal.proofs.laws.checkpoints_grow_by_acts.Goals as goal

pub returns : goal.returns
returns c = grows
