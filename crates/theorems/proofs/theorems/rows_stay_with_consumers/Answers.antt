use Rattle.theorems.proofs.GivenOnce.{lives_give_once}
use Rattle.theorems.proofs.OwnConsumer.{lives_go_to_own}
use Rattle.theorems.proofs.theorems.rows_stay_with_consumers.Goals as goal

pub returns : goal.returns
returns c = (lives_go_to_own, lives_give_once)
