use Rattle.std.proofs.Common.{Some}
use Rattle.route_credit.specs.Pool.{chose}
use Rattle.state_pools.specs.ByBytes.{at}
use Rattle.state_pools.proofs.Written.{written}
use Rattle.state_pools.proofs.row.Row.note.Goals as goal

pub returns-in-Some : goal.returns-in-Some
returns-in-Some c there share =
    written share (at c.args.self.now.pools) c.args.address.now (at (c.get_there_mut.follows.lender c.note.new.self)) c.in-Some.pool.now c.note.new.self (λ pool. chose pool (Some c.args.consumer.0)) (c.in-Some.ensures.value there) (c.get_there_mut.follows.holds c.note.new.self there) c.note.ensures
