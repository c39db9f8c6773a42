use Rattle.route_credit.proofs.Lawful.{chosen_is_free}
use Rattle.route_credit.proofs.laws.chosen_is_free.Goals as goal

pub returns : goal.returns
returns c = chosen_is_free
