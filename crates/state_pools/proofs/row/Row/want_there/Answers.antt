use Rattle.std.proofs.Common.{◌∙◌, sym, ap, is_some, true≢false}
use Rattle.route_credit.specs.Granting.{grants_of}
use Rattle.route_credit.specs.Pool.{wanted, Sharing, without_consumer}
use Rattle.state_pools.specs.ByBytes.{at}
use Rattle.state_pools.proofs.Written.{written, written_there}
use Rattle.state_pools.proofs.row.Row.want_there.Goals as goal

pub returns-clause-quiet : goal.returns-clause-quiet
returns-clause-quiet c enough there share =
    ap grants_of (written_there share (at c.args.self.now.pools) c.args.address.now (at (c.get_there_mut.follows.lender c.want.new.self)) c.in-Some.found.now c.want.new.self (c.in-Some.ensures.value there) (c.get_there_mut.follows.holds c.want.new.self there))
    ∙ c.is_short.ensures.quiet enough

pub returns-clause-changed : goal.returns-clause-changed
returns-clause-changed c there share a =
    let change : Sharing → Sharing = λ pool. wanted (without_consumer pool c.args.number) c.args.number c.args.unused c.args.due c.args.held in
    written share (at c.args.self.now.pools) c.args.address.now (at (c.get_there_mut.follows.lender c.want.new.self)) c.in-Some.found.now c.want.new.self change (c.in-Some.ensures.value there)
    (c.get_there_mut.follows.holds c.want.new.self there) (c.in_ok-want.ensures.wanted ∙ ap (λ pool. wanted pool c.args.number c.args.unused c.args.due c.args.held) c.drop_consumer.ensures) a

pub returns-in_default-clause-quiet : goal.returns-in_default-clause-quiet
returns-in_default-clause-quiet c enough = absurd cc

pub returns-in_default-clause-changed : goal.returns-in_default-clause-changed
returns-in_default-clause-changed c there = absurd (true≢false (sym there ∙ ap is_some (sym (c.in_default.ensures.value there))))
