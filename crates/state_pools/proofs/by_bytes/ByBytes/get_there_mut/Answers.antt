use Rattle.std.proofs.Common.{◌≡◌, ◌==◌, ◌∙◌, sym, ap, refl, Some, option_map, is_some, length, true}
use Rattle.std.proofs.lemmas.Bool.{eq-eqb}
use Rattle.state_pools.specs.Addresses.{at_address}
use Rattle.state_pools.specs.ByBytes.{first_at, or_else}
use Rattle.state_pools.proofs.Places.{sole, sole_written}
use Rattle.state_pools.proofs.Written.{none}
use Rattle.state_pools.proofs.by_bytes.ByBytes.get_there_mut.Goals as goal

pub returns : goal.returns
returns g c =
    let more = c.args.self.now.more.entries in
    let q = c.args.address.now in
    let place = c.in-Some.first in
    let empty : (length more == 0) ≡ true = eq-eqb (length more) 0 (c.is_empty.ensures.0 c.if-not-is_empty.false) in (
      (
        refl,
        (λ w there a. rw (c.in-Some.is, c.as_mut.ensures.value ∙ c.in-Some.first-is)
            (sole_written place.address.items q place.value w (λ b. at_address more (λ k. k.items) b) (λ b. ap (λ es. at_address es (λ k. k.items) b) (none more empty))
            (sym (ap (λ f. is_some (or_else (first_at f q) (at_address more (λ k. k.items) q))) c.in-Some.is) ∙ there) a)),
        (λ a. refl),
      ),
      record {
        lends = tt;
        value = λ there. ap (λ p. Some p.value) (c.as_mut.ensures.value ∙ c.in-Some.first-is) ∙ sym (ap (option_map (λ p. p.value)) c.in-Some.is) ∙ sole c.args.self.now empty q there;
      },
    )
