use Rattle.std.proofs.Common.{ap}
use Rattle.route_credit.specs.Side.{has_no_other}
use Rattle.route_credit.proofs.Alone.{no_other_ordered}
use Rattle.route_credit.proofs.side.Side.put.Goals as goal

pub returns-in-Empty-clause-ordered : goal.returns-in-Empty-clause-ordered
returns-in-Empty-clause-ordered g c = no_other_ordered c.args.self.now c.args.id (ap (λ s. has_no_other s c.args.id) c.in-Empty.is)
