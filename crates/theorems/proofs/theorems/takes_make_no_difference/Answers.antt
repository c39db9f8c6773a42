use Rattle.theorems.proofs.Takes.{takes_alike}
use Rattle.theorems.proofs.theorems.takes_make_no_difference.Goals as goal

pub returns : goal.returns
returns c = takes_alike
