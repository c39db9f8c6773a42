use Rattle.std.proofs.Common.{◌∙◌, sym, ap, is_some, true≢false}
use Rattle.route_credit.specs.Granting.{grants_of}
use Rattle.route_credit.specs.Pool.{offered, Sharing, without_producer}
use Rattle.state_pools.specs.ByBytes.{at}
use Rattle.state_pools.proofs.Written.{written, written_there}
use Rattle.state_pools.proofs.row.Row.offer_there.Goals as goal

pub returns-clause-quiet : goal.returns-clause-quiet
returns-clause-quiet c enough there share =
    ap grants_of (written_there share (at c.args.self.now.pools) c.args.address.now (at (c.get_there_mut.follows.lender c.offer.new.self)) c.in-Some.found.now c.offer.new.self (c.in-Some.ensures.value there) (c.get_there_mut.follows.holds c.offer.new.self there))
    ∙ c.is_short.ensures.quiet enough

pub returns-clause-changed : goal.returns-clause-changed
returns-clause-changed c there share a =
    let change : Sharing → Sharing = λ pool. offered (without_producer pool c.args.number) c.args.number c.args.free c.args.undecided in
    written share (at c.args.self.now.pools) c.args.address.now (at (c.get_there_mut.follows.lender c.offer.new.self)) c.in-Some.found.now c.offer.new.self change (c.in-Some.ensures.value there)
    (c.get_there_mut.follows.holds c.offer.new.self there) (c.in_ok-offer.ensures.offered ∙ ap (λ pool. offered pool c.args.number c.args.free c.args.undecided) c.drop_producer.ensures) a

pub returns-in_default-clause-quiet : goal.returns-in_default-clause-quiet
returns-in_default-clause-quiet c enough = absurd cc

pub returns-in_default-clause-changed : goal.returns-in_default-clause-changed
returns-in_default-clause-changed c there = absurd (true≢false (sym there ∙ ap is_some (sym (c.in_default.ensures.value there))))
