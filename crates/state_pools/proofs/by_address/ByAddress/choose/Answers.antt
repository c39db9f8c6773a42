use Rattle.std.proofs.Common.{◌∙◌, ap, refl, None, Some, option_map}
use Rattle.route_credit.specs.Granting.{choice}
use Rattle.route_credit.specs.Pool.{chose}
use Rattle.state_collections.specs.NumberMap.{at_number}
use Rattle.state_pools.proofs.Rows.{changed, found, lent, stands, unchanged}
use Rattle.state_pools.proofs.by_address.ByAddress.choose.Goals as goal

pub returns-in-None-clause-chosen : goal.returns-in-None-clause-chosen
returns-in-None-clause-chosen c there share = ap choice (found share (at_number c.args.self.now.rows) c.args.address.now c.args.digest c.requires None c.in-None.ensures.value)

pub returns-in-None-clause-noted : goal.returns-in-None-clause-noted
returns-in-None-clause-noted c there share =
    unchanged share (at_number c.args.self.now.rows) c.args.address.now c.args.digest c.requires (at_number c.get_mut.follows.lender-at-none) (λ i d. c.get_mut.follows.holds-at-none d i) (λ pool. pool) refl c.in-None.ensures.value

pub returns-in-Some-clause-chosen : goal.returns-in-Some-clause-chosen
returns-in-Some-clause-chosen c there share =
    c.choose.ensures.chosen (stands (at_number c.args.self.now.rows) c.args.address.now c.args.digest (Some c.in-Some.row.now) c.requires c.in-Some.ensures.value there) share ∙ ap choice (found share (at_number c.args.self.now.rows) c.args.address.now c.args.digest c.requires (Some c.in-Some.row.now) c.in-Some.ensures.value)

pub returns-in-Some-clause-noted : goal.returns-in-Some-clause-noted
returns-in-Some-clause-noted c there share =
    let rows = c.args.self.now.rows in
    let rows' = c.get_mut.follows.lender c.choose.new.self in
    changed share (at_number rows) c.args.address.now c.args.digest c.requires (at_number rows') (Some c.in-Some.row.now) (Some c.choose.new.self) (λ pool. chose pool (option_map (λ c. c.0) c.choose.result)) c.in-Some.ensures.value
    (lent (at_number rows) (at_number rows') c.args.digest c.in-Some.row.now c.choose.new.self c.in-Some.ensures.value (c.get_mut.follows.holds c.choose.new.self)) (c.choose.ensures.noted (stands (at_number c.args.self.now.rows) c.args.address.now c.args.digest (Some c.in-Some.row.now) c.requires c.in-Some.ensures.value there) share)
