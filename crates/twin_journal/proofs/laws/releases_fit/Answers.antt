use Rattle.twin_journal.proofs.Fulls.{releases_are_taken}
use Rattle.twin_journal.proofs.laws.releases_fit.Goals as goal

pub returns : goal.returns
returns c = releases_are_taken
