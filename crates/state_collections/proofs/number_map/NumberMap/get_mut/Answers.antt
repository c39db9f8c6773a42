use Rattle.std.proofs.Common.{◌∙◌, sym, ap, refl}
use Rattle.std.specs.Ordering.{nat_cmp}
use Rattle.std.specs.BTreeMap.{get}
use Rattle.state_collections.specs.NumberMap.{in_places, or_else}
use Rattle.state_collections.proofs.Placed.{written}
use Rattle.state_collections.proofs.Remainders.{behind, other_written}
use Rattle.state_collections.proofs.number_map.NumberMap.get_mut.Goals as goal

pub returns : goal.returns
returns g c =
    let placed = in_places c.args.self.now.placed in
    let others = c.args.self.now.others in
    let none = sym c.has.ensures ∙ c.if-has.false in (
      (
        refl,
        (λ w. other_written placed (get nat_cmp others) (get nat_cmp (c.get_mut-2.follows.lender w)) c.args.number w none (written others (c.get_mut-2.follows.lender w) c.args.number w (c.get_mut-2.follows.holds w))),
        (λ q. ap (λ m. or_else (placed q) (get nat_cmp m q)) c.get_mut-2.follows.holds-at-none),
      ),
      record {
        lends = tt;
        value = c.get_mut-2.ensures.value ∙ behind (placed c.args.number) (get nat_cmp others c.args.number) none;
      },
    )
