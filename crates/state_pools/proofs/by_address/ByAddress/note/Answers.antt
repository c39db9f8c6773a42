use Rattle.std.proofs.Common.{Some}
use Rattle.route_credit.specs.Pool.{chose}
use Rattle.state_collections.specs.NumberMap.{at_number}
use Rattle.state_pools.proofs.Rows.{changed, lent, stands}
use Rattle.state_pools.proofs.by_address.ByAddress.note.Goals as goal

pub returns-in-Some : goal.returns-in-Some
returns-in-Some c there share =
    let rows = c.args.self.now.rows in
    let rows' = c.get_mut.follows.lender c.note.new.self in
    changed share (at_number rows) c.args.address.now c.args.digest c.requires (at_number rows') (Some c.in-Some.row.now) (Some c.note.new.self) (λ pool. chose pool (Some c.args.consumer.0)) c.in-Some.ensures.value
    (lent (at_number rows) (at_number rows') c.args.digest c.in-Some.row.now c.note.new.self c.in-Some.ensures.value (c.get_mut.follows.holds c.note.new.self)) (c.note.ensures (stands (at_number rows) c.args.address.now c.args.digest (Some c.in-Some.row.now) c.requires c.in-Some.ensures.value there) share)
