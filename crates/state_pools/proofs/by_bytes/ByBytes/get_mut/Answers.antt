use Rattle.std.proofs.Common.{◌∙◌, sym, ap, refl}
use Rattle.state_pools.specs.Addresses.{at_address}
use Rattle.state_pools.specs.ByBytes.{first_at, or_else}
use Rattle.state_pools.proofs.AtAddress.{lookup_is, set_at}
use Rattle.state_pools.proofs.Places.{after_first, more_written}
use Rattle.state_pools.proofs.by_bytes.ByBytes.get_mut.Goals as goal

pub returns : goal.returns
returns g c =
    let first = c.args.self.now.first in
    let more = c.args.self.now.more.entries in
    let q = c.args.address.now in
    let not_first = sym c.is_first.ensures ∙ c.if-is_first.false in (
      (
        refl,
        (λ w. more_written first (at_address more (λ k. k.items)) (at_address (c.get_mut.follows.lender w).entries (λ k. k.items)) q w not_first
            (λ a. ap (λ es. at_address es (λ k. k.items) a) (c.get_mut.follows.holds w).0 ∙ set_at (λ k. k.items) more q a w)),
        (λ a. ap (λ m. or_else (first_at first a) (at_address m.entries (λ k. k.items) a)) c.get_mut.follows.holds-at-none),
      ),
      record {
        lends = tt;
        value = c.get_mut.ensures.value ∙ lookup_is (λ k. k.items) more q ∙ after_first first q (at_address more (λ k. k.items) q) not_first;
      },
    )
