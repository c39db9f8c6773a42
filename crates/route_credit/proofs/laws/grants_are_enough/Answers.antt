use Rattle.route_credit.proofs.Lawful.{grants_are_enough}
use Rattle.route_credit.proofs.laws.grants_are_enough.Goals as goal

pub returns : goal.returns
returns c = grants_are_enough
