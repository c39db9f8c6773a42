use Rattle.route_table.proofs.Others.{other_route}
use Rattle.route_table.proofs.laws.other_route_changes_nothing.Goals as goal

pub returns : goal.returns
returns c = other_route
