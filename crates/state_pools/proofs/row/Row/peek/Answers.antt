use Rattle.std.proofs.Common.{◌∙◌, sym, ap}
use Rattle.route_credit.specs.Granting.{choice}
use Rattle.state_pools.specs.ByBytes.{at}
use Rattle.state_pools.proofs.Written.{here, nowhere}
use Rattle.state_pools.proofs.row.Row.peek.Goals as goal

pub returns-in-None : goal.returns-in-None
returns-in-None c there share = sym (ap choice (nowhere share (at c.args.self.now.pools) c.args.address.now (c.in-None.ensures there)))

pub returns-in-Some : goal.returns-in-Some
returns-in-Some c there share = c.peek.ensures.chosen ∙ sym (ap choice (here share (at c.args.self.now.pools) c.args.address.now c.in-Some.pool.now (c.in-Some.ensures there)))
