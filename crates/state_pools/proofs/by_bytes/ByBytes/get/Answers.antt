use Rattle.std.proofs.Common.{◌∙◌, sym}
use Rattle.state_pools.specs.Addresses.{at_address}
use Rattle.state_pools.proofs.AtAddress.{lookup_is}
use Rattle.state_pools.proofs.Places.{after_first}
use Rattle.state_pools.proofs.by_bytes.ByBytes.get.Goals as goal

pub returns : goal.returns
returns g c =
    let more = c.args.self.now.more.entries in
    let q = c.args.address.now in
    c.get.ensures.value ∙ lookup_is (λ k. k.items) more q
    ∙ after_first c.args.self.now.first q (at_address more (λ k. k.items) q) (sym c.is_first.ensures ∙ c.if-is_first.false)
