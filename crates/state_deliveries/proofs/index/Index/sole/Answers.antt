use Rattle.std.proofs.Common.{ap}
use Rattle.state_deliveries.specs.Indexing.{concerns}
use Rattle.state_deliveries.proofs.Reindexed.{sole_there}
use Rattle.state_deliveries.proofs.index.Index.sole.Goals as goal

pub returns-in-Untold : goal.returns-in-Untold
returns-in-Untold c =
    sole_there c.args.self.now c.args.change.now c.in-Untold.conn c.in-Untold.own c.in-Untold.first c.in-Untold.last c.sole.result (λ k. ap (λ x. concerns x k) c.in-Untold.is) c.sole.ensures

pub returns-in-Told : goal.returns-in-Told
returns-in-Told c =
    sole_there c.args.self.now c.args.change.now c.in-Told.conn c.in-Told.own c.in-Told.first c.in-Told.last c.sole-in-Told.result (λ k. ap (λ x. concerns x k) c.in-Told.is) c.sole-in-Told.ensures
