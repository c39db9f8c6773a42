use Rattle.std.proofs.Common.{rules}
use Rattle.state_deliveries.proofs.Placed.{nowhere_at}
use Rattle.state_deliveries.proofs.spots.Spots.is_empty.Goals as goal

pub returns : goal.returns
returns c = λ empty known fit n. nowhere_at c.args.self.now known fit (search rules) n
