use Rattle.std.proofs.Common.{rules}
use Rattle.state_deliveries.proofs.Identified.{sole_id}
use Rattle.state_deliveries.proofs.by_id.ById.sole.Goals as goal

pub returns : goal.returns
returns c = sole_id c.args.self.now c.args.conn c.args.own c.args.first c.args.last c.first_at.result (search rules) (search rules) c.first_at.ensures (c.is_empty.ensures (search rules))
