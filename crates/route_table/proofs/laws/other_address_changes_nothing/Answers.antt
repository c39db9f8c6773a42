use Rattle.route_table.proofs.Others.{other_address}
use Rattle.route_table.proofs.laws.other_address_changes_nothing.Goals as goal

pub returns : goal.returns
returns c = other_address
