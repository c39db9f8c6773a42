use Rattle.std.proofs.Common.{◌∙◌, sym, ap}
use Rattle.std.specs.Prelude.{map}
use Rattle.route_credit.specs.Pool.{copies}
use Rattle.route_credit.specs.declared.ids.ConsumerId.{ConsumerId}
use Rattle.state_pools.specs.ByBytes.{at}
use Rattle.state_pools.proofs.Written.{here, no_copies, nowhere, on_told}
use Rattle.state_pools.proofs.row.Row.copies.Goals as goal

pub returns-in-None : goal.returns-in-None
returns-in-None c there share =
    ap (map (λ (k : ConsumerId). k.0)) c.new.ensures.items ∙ sym (ap copies (nowhere share (at c.args.self.now.pools) c.args.address.now (c.in-None.ensures there)) ∙ no_copies (share c.args.address.now))

pub returns-in-Some : goal.returns-in-Some
returns-in-Some c = on_told c.copies.result _ _ c.copies.ensures (λ to is there share. is ∙ sym (ap copies (here share (at c.args.self.now.pools) c.args.address.now c.in-Some.pool.now (c.in-Some.ensures there))))
