use Rattle.std.proofs.Common.{◌∙◌, ap, refl}
use Rattle.route_credit.specs.Pool.{without_producer}
use Rattle.state_pools.specs.Addresses.{without}
use Rattle.state_pools.specs.ByBytes.{at}
use Rattle.state_pools.proofs.Written.{unwritten, written}
use Rattle.state_pools.proofs.row.Row.leave.Goals as goal

pub returns-in-Some : goal.returns-in-Some
returns-in-Some c share =
    written share (at c.args.self.now.pools) c.args.address.now (at (c.get_mut.follows.lender c.drop_producer.new.self)) c.in-Some.pool.now c.drop_producer.new.self (λ pool. without pool c.args.number) c.in-Some.ensures.value
    (c.get_mut.follows.holds c.drop_producer.new.self) (c.drop_producer.ensures ∙ ap (λ pool. without_producer pool c.args.number) c.drop_consumer.ensures)

pub returns-in_default : goal.returns-in_default
returns-in_default c share = unwritten share (at c.args.self.now.pools) c.args.address.now (at c.get_mut.follows.lender-at-none) c.get_mut.follows.holds-at-none (λ pool. without pool c.args.number) refl c.in_default.ensures.value
