use Rattle.std.proofs.Common.{◌∙◌, sym, ap, refl}
use Rattle.route_credit.specs.Granting.{all_granted, grants_of}
use Rattle.route_credit.specs.Pool.{by_id}
use Rattle.state_pools.specs.ByBytes.{at}
use Rattle.state_pools.proofs.Written.{here, nowhere, on_ok_then, on_told, unwritten, written}
use Rattle.state_pools.proofs.row.Row.grants_there.Goals as goal

pub returns-in-None-clause-sums : goal.returns-in-None-clause-sums
returns-in-None-clause-sums c there share = ap (λ items. by_id items) c.new.ensures.items ∙ sym (ap grants_of (nowhere share (at c.args.self.now.pools) c.args.address.now (c.in-None.ensures.value there)))

pub returns-in-None-clause-filled : goal.returns-in-None-clause-filled
returns-in-None-clause-filled c there share = unwritten share (at c.args.self.now.pools) c.args.address.now (at c.get_there_mut.follows.lender-at-none) c.get_there_mut.follows.holds-at-none all_granted refl (c.in-None.ensures.value there)

pub returns-in-Some-clause-sums : goal.returns-in-Some-clause-sums
returns-in-Some-clause-sums c = on_told c.grants.result _ _ c.grants.ensures.sums (λ sums is there share. is ∙ sym (ap grants_of (here share (at c.args.self.now.pools) c.args.address.now c.in-Some.pool.now (c.in-Some.ensures.value there))))

pub returns-in-Some-clause-filled : goal.returns-in-Some-clause-filled
returns-in-Some-clause-filled c = on_ok_then c.grants.result _ _ c.grants.ensures.filled (λ is there share a.
    written share (at c.args.self.now.pools) c.args.address.now (at (c.get_there_mut.follows.lender c.grants.new.self)) c.in-Some.pool.now c.grants.new.self all_granted (c.in-Some.ensures.value there) (c.get_there_mut.follows.holds c.grants.new.self there) is a)
