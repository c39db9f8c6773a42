use Rattle.theorems.proofs.ToldRightly.{lives_told_rightly}
use Rattle.theorems.proofs.theorems.producers_are_told_rightly.Goals as goal

pub returns : goal.returns
returns c = lives_told_rightly
