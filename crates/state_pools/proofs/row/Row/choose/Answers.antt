use Rattle.std.proofs.Common.{◌∙◌, sym, ap, option_map}
use Rattle.route_credit.specs.Granting.{choice}
use Rattle.route_credit.specs.Pool.{chose}
use Rattle.state_pools.specs.ByBytes.{at}
use Rattle.state_pools.proofs.Written.{here, nowhere, written}
use Rattle.state_pools.proofs.row.Row.choose.Goals as goal

pub returns-in-None-clause-chosen : goal.returns-in-None-clause-chosen
returns-in-None-clause-chosen c there share = sym (ap choice (nowhere share (at c.args.self.now.pools) c.args.address.now (c.in-None.ensures.value there)))

pub returns-in-Some-clause-chosen : goal.returns-in-Some-clause-chosen
returns-in-Some-clause-chosen c there share = c.choose.ensures.chosen ∙ sym (ap choice (here share (at c.args.self.now.pools) c.args.address.now c.in-Some.pool.now (c.in-Some.ensures.value there)))

pub returns-in-Some-clause-noted : goal.returns-in-Some-clause-noted
returns-in-Some-clause-noted c there share =
    written share (at c.args.self.now.pools) c.args.address.now (at (c.get_there_mut.follows.lender c.choose.new.self)) c.in-Some.pool.now c.choose.new.self (λ pool. chose pool (option_map (λ c. c.0) c.choose.result)) (c.in-Some.ensures.value there) (c.get_there_mut.follows.holds c.choose.new.self there) c.choose.ensures.noted
