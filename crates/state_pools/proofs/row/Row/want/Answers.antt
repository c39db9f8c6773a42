use Rattle.std.proofs.Common.{◌∙◌, sym, ap}
use Rattle.route_credit.specs.Granting.{grants_of}
use Rattle.route_credit.specs.Pool.{no_links, wanted, Sharing, without_consumer}
use Rattle.state_pools.specs.Addresses.{with_pool}
use Rattle.state_pools.specs.Fits.{pool_in_row}
use Rattle.state_pools.specs.ByBytes.{at}
use Rattle.state_pools.proofs.Written.{begun, written, written_there}
use Rattle.state_pools.proofs.row.Row.want.Goals as goal

pub returns-in-Some-clause-quiet : goal.returns-in-Some-clause-quiet
returns-in-Some-clause-quiet c enough share =
    ap (λ q. grants_of (pool_in_row share (record c.args.self.now { pools = c.get_mut.follows.lender c.want.new.self }) q)) (sym c.as_bytes-place.ensures.value)
    ∙ ap grants_of (written_there share (at c.args.self.now.pools) c.as_bytes-place.result.now (at (c.get_mut.follows.lender c.want.new.self)) c.in-Some.there.now c.want.new.self c.in-Some.ensures.value (c.get_mut.follows.holds c.want.new.self))
    ∙ c.is_short.ensures.quiet enough

pub returns-in-Some-clause-changed : goal.returns-in-Some-clause-changed
returns-in-Some-clause-changed c share same a =
    let change : Sharing → Sharing = λ pool. wanted (without_consumer pool c.args.number) c.args.number c.args.unused c.args.due c.args.held in
    written share (at c.args.self.now.pools) c.as_bytes-place.result.now (at (c.get_mut.follows.lender c.want.new.self)) c.in-Some.there.now c.want.new.self change c.in-Some.ensures.value
    (c.get_mut.follows.holds c.want.new.self) (c.in_ok-want.ensures.wanted ∙ ap (λ pool. wanted pool c.args.number c.args.unused c.args.due c.args.held) c.drop_consumer.ensures) a
    ∙ ap (λ q. with_pool (pool_in_row share c.args.self.now) q change a) c.as_bytes-place.ensures.value

pub returns-clause-quiet : goal.returns-clause-quiet
returns-clause-quiet c enough = absurd cc

pub returns-clause-changed : goal.returns-clause-changed
returns-clause-changed c share same a =
    let change : Sharing → Sharing = λ pool. wanted (without_consumer pool c.args.number) c.args.number c.args.unused c.args.due c.args.held in
    let new = c.new-pool.ensures ∙ ap no_links (c.distribution.ensures ∙ same ∙ ap share (sym c.as_bytes-place.ensures.value)) in
    c.in_ok-put.ensures share a
    ∙ begun share (at c.args.self.now.pools) c.as_bytes-place.result.now (at c.get_mut.follows.lender-at-none) c.get_mut.follows.holds-at-none c.want-2.new.self change c.in_default.ensures.value
    (c.in_ok-want-2.ensures.wanted ∙ ap (λ pool. wanted pool c.args.number c.args.unused c.args.due c.args.held) new) a
    ∙ ap (λ q. with_pool (pool_in_row share c.args.self.now) q change a) c.as_bytes-place.ensures.value
