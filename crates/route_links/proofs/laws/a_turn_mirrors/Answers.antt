use Rattle.route_links.proofs.Runs.{one_went}
use Rattle.route_links.proofs.laws.a_turn_mirrors.Goals as goal

pub returns : goal.returns
returns c = one_went
