use Rattle.gate_journal.proofs.Fulls.{full_tested, test_full}
use Rattle.gate_journal.proofs.laws.fullness_is_tested.Goals as goal

pub returns : goal.returns
returns c = λ used kept acts. (full_tested used kept acts, test_full used kept acts)
