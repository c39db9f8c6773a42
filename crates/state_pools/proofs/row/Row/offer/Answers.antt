use Rattle.std.proofs.Common.{◌∙◌, sym, ap}
use Rattle.route_credit.specs.Granting.{grants_of}
use Rattle.route_credit.specs.Pool.{no_links, offered, Sharing, without_producer}
use Rattle.state_pools.specs.Addresses.{with_pool}
use Rattle.state_pools.specs.Fits.{pool_in_row}
use Rattle.state_pools.specs.ByBytes.{at}
use Rattle.state_pools.proofs.Written.{begun, written, written_there}
use Rattle.state_pools.proofs.row.Row.offer.Goals as goal

pub returns-in-Some-clause-quiet : goal.returns-in-Some-clause-quiet
returns-in-Some-clause-quiet c enough share =
    ap (λ q. grants_of (pool_in_row share (record c.args.self.now { pools = c.get_mut.follows.lender c.offer.new.self }) q)) (sym c.as_bytes-place.ensures.value)
    ∙ ap grants_of (written_there share (at c.args.self.now.pools) c.as_bytes-place.result.now (at (c.get_mut.follows.lender c.offer.new.self)) c.in-Some.there.now c.offer.new.self c.in-Some.ensures.value (c.get_mut.follows.holds c.offer.new.self))
    ∙ c.is_short.ensures.quiet enough

pub returns-in-Some-clause-changed : goal.returns-in-Some-clause-changed
returns-in-Some-clause-changed c share same a =
    let change : Sharing → Sharing = λ pool. offered (without_producer pool c.args.number) c.args.number c.args.free c.args.undecided in
    written share (at c.args.self.now.pools) c.as_bytes-place.result.now (at (c.get_mut.follows.lender c.offer.new.self)) c.in-Some.there.now c.offer.new.self change c.in-Some.ensures.value
    (c.get_mut.follows.holds c.offer.new.self) (c.in_ok-offer.ensures.offered ∙ ap (λ pool. offered pool c.args.number c.args.free c.args.undecided) c.drop_producer.ensures) a
    ∙ ap (λ q. with_pool (pool_in_row share c.args.self.now) q change a) c.as_bytes-place.ensures.value

pub returns-clause-quiet : goal.returns-clause-quiet
returns-clause-quiet c enough = absurd cc

pub returns-clause-changed : goal.returns-clause-changed
returns-clause-changed c share same a =
    let change : Sharing → Sharing = λ pool. offered (without_producer pool c.args.number) c.args.number c.args.free c.args.undecided in
    let new = c.new-pool.ensures ∙ ap no_links (c.distribution.ensures ∙ same ∙ ap share (sym c.as_bytes-place.ensures.value)) in
    c.in_ok-put.ensures share a
    ∙ begun share (at c.args.self.now.pools) c.as_bytes-place.result.now (at c.get_mut.follows.lender-at-none) c.get_mut.follows.holds-at-none c.offer-2.new.self change c.in_default.ensures.value
    (c.in_ok-offer-2.ensures.offered ∙ ap (λ pool. offered pool c.args.number c.args.free c.args.undecided) new) a
    ∙ ap (λ q. with_pool (pool_in_row share c.args.self.now) q change a) c.as_bytes-place.ensures.value
