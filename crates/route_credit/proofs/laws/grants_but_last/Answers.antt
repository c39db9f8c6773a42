use Rattle.route_credit.proofs.Gains.{grants_but_last}
use Rattle.route_credit.proofs.laws.grants_but_last.Goals as goal

pub returns : goal.returns
returns c = grants_but_last
