use Rattle.twin_journal.proofs.Unique.{one_side}
use Rattle.twin_journal.proofs.laws.one_side.Goals as goal

pub returns : goal.returns
returns c = one_side
