use Rattle.std.proofs.Common.{refl, Some}
use Rattle.state_collections.specs.NumberMap.{at_number}
use Rattle.state_pools.specs.Addresses.{without}
use Rattle.state_pools.proofs.Rows.{changed, lent, unchanged}
use Rattle.state_pools.proofs.by_address.ByAddress.leave.Goals as goal

pub returns-in-Some : goal.returns-in-Some
returns-in-Some c share =
    let rows = c.args.self.now.rows in
    let rows' = c.get_mut.follows.lender c.leave.new.self in
    changed share (at_number rows) c.args.address.now c.args.digest c.requires (at_number rows') (Some c.in-Some.row.now) (Some c.leave.new.self) (λ pool. without pool c.args.number) c.in-Some.ensures.value
    (lent (at_number rows) (at_number rows') c.args.digest c.in-Some.row.now c.leave.new.self c.in-Some.ensures.value (c.get_mut.follows.holds c.leave.new.self)) (c.leave.ensures share)

pub returns-in_default : goal.returns-in_default
returns-in_default c share =
    unchanged share (at_number c.args.self.now.rows) c.args.address.now c.args.digest c.requires (at_number c.get_mut.follows.lender-at-none) (λ i d. c.get_mut.follows.holds-at-none d i) (λ pool. without pool c.args.number) refl c.in_default.ensures.value
