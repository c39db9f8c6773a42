use Rattle.gate_journal.proofs.Releases.{releases_fit}
use Rattle.gate_journal.proofs.laws.releases_fit.Goals as goal

pub returns : goal.returns
returns c = releases_fit
