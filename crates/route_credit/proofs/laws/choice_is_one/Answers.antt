use Rattle.route_credit.proofs.Lawful.{choice_is_one}
use Rattle.route_credit.proofs.laws.choice_is_one.Goals as goal

pub returns : goal.returns
returns c = choice_is_one
