use Rattle.twin_journal.proofs.Fulls.{full_tested, test_full}
use Rattle.twin_journal.proofs.laws.fullness_is_tested.Goals as goal

pub returns : goal.returns
returns c = λ b acts. (full_tested b acts, test_full b acts)
