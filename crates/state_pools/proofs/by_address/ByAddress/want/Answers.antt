use Rattle.std.proofs.Common.{◌∙◌, ap, cond, None, Some}
use Rattle.std.specs.Prelude.{◌==◌}
use Rattle.route_credit.specs.Granting.{grants_of}
use Rattle.route_credit.specs.Pool.{wanted, Sharing, without_consumer}
use Rattle.state_collections.specs.NumberMap.{at_number}
use Rattle.state_pools.proofs.Rows.{changed, here_then, first_pool, lent}
use Rattle.state_pools.proofs.Written.{on_ok_then, on_told}
use Rattle.state_pools.proofs.by_address.ByAddress.want.Goals as goal

pub returns-in-Some-clause-quiet : goal.returns-in-Some-clause-quiet
returns-in-Some-clause-quiet c = on_told c.want.result _ _ c.want.ensures.quiet (λ may is enough share.
    let rows = c.args.self.now.rows in
    let rows' = c.get_mut.follows.lender c.want.new.self in
    ap grants_of (here_then share (at_number rows) c.args.address.now c.args.digest c.requires (at_number rows') (Some c.want.new.self)
    (lent (at_number rows) (at_number rows') c.args.digest c.in-Some.row.now c.want.new.self c.in-Some.ensures.value (c.get_mut.follows.holds c.want.new.self))) ∙ is enough share)

pub returns-in-Some-clause-changed : goal.returns-in-Some-clause-changed
returns-in-Some-clause-changed c = on_ok_then c.want.result _ _ c.want.ensures.changed (λ is share same a.
    let rows = c.args.self.now.rows in
    let rows' = c.get_mut.follows.lender c.want.new.self in
    changed share (at_number rows) c.args.address.now c.args.digest c.requires (at_number rows') (Some c.in-Some.row.now) (Some c.want.new.self)
    (λ pool. wanted (without_consumer pool c.args.number) c.args.number c.args.unused c.args.due c.args.held) c.in-Some.ensures.value
    (lent (at_number rows) (at_number rows') c.args.digest c.in-Some.row.now c.want.new.self c.in-Some.ensures.value (c.get_mut.follows.holds c.want.new.self)) (is share same) a)

pub returns-clause-quiet : goal.returns-clause-quiet
returns-clause-quiet c enough = absurd cc

pub returns-clause-changed : goal.returns-clause-changed
returns-clause-changed c share same a =
    let key = c.args.digest in
    let change : Sharing → Sharing = λ pool. wanted (without_consumer pool c.args.number) c.args.number c.args.unused c.args.due c.args.held in
    changed share (at_number c.args.self.now.rows) c.args.address.now key c.requires (at_number c.put.new.self.rows) None (Some c.want-2.new.self) change c.in_default.ensures.value
    (λ d. c.in_ok-put.ensures d ∙ ap (λ r. cond (key == d) (Some c.want-2.new.self) r) (c.get_mut.follows.holds-at-none d))
    (first_pool share c.new-row.result c.want-2.new.self c.args.address.now change (c.new-row.ensures share) (c.in_ok-want.ensures.changed share same)) a
