use Rattle.theorems.proofs.AsTold.{sendable_kept}
use Rattle.theorems.proofs.ToldAsKept.{lives_have_told}
use Rattle.theorems.proofs.ToldInScripts.{scripts_have_told, runs_have_told}
use Rattle.theorems.proofs.theorems.outcomes_are_kept_as_told.Goals as goal

pub returns : goal.returns
returns c = (sendable_kept, lives_have_told, scripts_have_told, runs_have_told)
