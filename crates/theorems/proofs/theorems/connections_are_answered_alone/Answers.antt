use Rattle.theorems.proofs.Apart.{answered_alone}
use Rattle.theorems.proofs.theorems.connections_are_answered_alone.Goals as goal

pub returns : goal.returns
returns c = answered_alone
