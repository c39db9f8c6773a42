use Rattle.std.proofs.Common.{◌∙◌, ap, sym, None, Some, true≢false}
use Rattle.route_credit.specs.Granting.{grants_of}
use Rattle.route_credit.specs.Pool.{offered, without_producer}
use Rattle.state_collections.specs.NumberMap.{at_number}
use Rattle.state_pools.proofs.Rows.{changed, here_then, lent, stands}
use Rattle.state_pools.proofs.Written.{on_ok_then, on_told}
use Rattle.state_pools.proofs.by_address.ByAddress.offer_there.Goals as goal

pub returns-in-None-clause-quiet : goal.returns-in-None-clause-quiet
returns-in-None-clause-quiet c enough = absurd cc

pub returns-in-None-clause-changed : goal.returns-in-None-clause-changed
returns-in-None-clause-changed c there = absurd (true≢false (sym (stands (at_number c.args.self.now.rows) c.args.address.now c.args.digest None c.requires c.in-None.ensures.value there)))

pub returns-in-Some-clause-quiet : goal.returns-in-Some-clause-quiet
returns-in-Some-clause-quiet c = on_told c.offer_there.result _ _ c.offer_there.ensures.quiet (λ may is enough there share.
    let rows = c.args.self.now.rows in
    let rows' = c.get_mut.follows.lender c.offer_there.new.self in
    ap grants_of (here_then share (at_number rows) c.args.address.now c.args.digest c.requires (at_number rows') (Some c.offer_there.new.self)
    (lent (at_number rows) (at_number rows') c.args.digest c.in-Some.row.now c.offer_there.new.self c.in-Some.ensures.value (c.get_mut.follows.holds c.offer_there.new.self)))
    ∙ is enough (stands (at_number c.args.self.now.rows) c.args.address.now c.args.digest (Some c.in-Some.row.now) c.requires c.in-Some.ensures.value there) share)

pub returns-in-Some-clause-changed : goal.returns-in-Some-clause-changed
returns-in-Some-clause-changed c = on_ok_then c.offer_there.result _ _ c.offer_there.ensures.changed (λ is there share a.
    let rows = c.args.self.now.rows in
    let rows' = c.get_mut.follows.lender c.offer_there.new.self in
    changed share (at_number rows) c.args.address.now c.args.digest c.requires (at_number rows') (Some c.in-Some.row.now) (Some c.offer_there.new.self)
    (λ pool. offered (without_producer pool c.args.number) c.args.number c.args.free c.args.undecided) c.in-Some.ensures.value
    (lent (at_number rows) (at_number rows') c.args.digest c.in-Some.row.now c.offer_there.new.self c.in-Some.ensures.value (c.get_mut.follows.holds c.offer_there.new.self)) (is (stands (at_number c.args.self.now.rows) c.args.address.now c.args.digest (Some c.in-Some.row.now) c.requires c.in-Some.ensures.value there) share) a)
