use Rattle.std.proofs.Common.{◌∙◌, ap, refl, None, Some}
use Rattle.route_credit.specs.Granting.{all_granted, grants_of}
use Rattle.route_credit.specs.Pool.{by_id}
use Rattle.state_collections.specs.NumberMap.{at_number}
use Rattle.state_pools.proofs.Rows.{changed, found, lent, stands, unchanged}
use Rattle.state_pools.proofs.Written.{on_ok_then, on_told}
use Rattle.state_pools.proofs.by_address.ByAddress.grants_there.Goals as goal

pub returns-in-None-clause-sums : goal.returns-in-None-clause-sums
returns-in-None-clause-sums c there share =
    ap (λ items. by_id items) c.new.ensures.items ∙ ap grants_of (found share (at_number c.args.self.now.rows) c.args.address.now c.args.digest c.requires None c.in-None.ensures.value)

pub returns-in-None-clause-filled : goal.returns-in-None-clause-filled
returns-in-None-clause-filled c there share =
    unchanged share (at_number c.args.self.now.rows) c.args.address.now c.args.digest c.requires (at_number c.get_mut.follows.lender-at-none) (λ i d. c.get_mut.follows.holds-at-none d i) all_granted refl c.in-None.ensures.value

pub returns-in-Some-clause-sums : goal.returns-in-Some-clause-sums
returns-in-Some-clause-sums c = on_told c.grants_there.result _ _ c.grants_there.ensures.sums (λ sums is there share.
    is (stands (at_number c.args.self.now.rows) c.args.address.now c.args.digest (Some c.in-Some.row.now) c.requires c.in-Some.ensures.value there) share ∙ ap grants_of (found share (at_number c.args.self.now.rows) c.args.address.now c.args.digest c.requires (Some c.in-Some.row.now) c.in-Some.ensures.value))

pub returns-in-Some-clause-filled : goal.returns-in-Some-clause-filled
returns-in-Some-clause-filled c = on_ok_then c.grants_there.result _ _ c.grants_there.ensures.filled (λ is there share a.
    let rows = c.args.self.now.rows in
    let rows' = c.get_mut.follows.lender c.grants_there.new.self in
    changed share (at_number rows) c.args.address.now c.args.digest c.requires (at_number rows') (Some c.in-Some.row.now) (Some c.grants_there.new.self) all_granted c.in-Some.ensures.value
    (lent (at_number rows) (at_number rows') c.args.digest c.in-Some.row.now c.grants_there.new.self c.in-Some.ensures.value (c.get_mut.follows.holds c.grants_there.new.self)) (is (stands (at_number c.args.self.now.rows) c.args.address.now c.args.digest (Some c.in-Some.row.now) c.requires c.in-Some.ensures.value there) share) a)
