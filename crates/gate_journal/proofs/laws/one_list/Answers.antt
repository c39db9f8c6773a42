use Rattle.gate_journal.proofs.Unique.{holds_unique}
use Rattle.gate_journal.proofs.laws.one_list.Goals as goal

pub returns : goal.returns
returns c = holds_unique
