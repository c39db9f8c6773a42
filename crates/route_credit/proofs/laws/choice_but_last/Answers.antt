use Rattle.route_credit.proofs.Remembered.{choice_but_last}
use Rattle.route_credit.proofs.laws.choice_but_last.Goals as goal

pub returns : goal.returns
returns c = choice_but_last
