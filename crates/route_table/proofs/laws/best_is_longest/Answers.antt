use Rattle.route_table.proofs.Others.{best_longest}
use Rattle.route_table.proofs.laws.best_is_longest.Goals as goal

pub returns : goal.returns
returns c = best_longest
