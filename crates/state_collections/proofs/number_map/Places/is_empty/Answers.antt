use Rattle.std.proofs.Common.{◌∙◌, sym, ap, not, bit_and}
use Rattle.std.specs.List.{list_all}
use Rattle.std.specs.Option.{is_some}
use Rattle.std.proofs.lemmas.List.{drop_all}
use Rattle.state_collections.proofs.Remainders.{no_value}
use Rattle.state_collections.proofs.number_map.Places.is_empty.Goals as goal

pub returns : goal.returns
returns g c = λ _ n.
    no_value c.args.self.now.places.items
    (ap (list_all (λ place. not (is_some place))) (sym c.deref-place-items.ensures.value) ∙ sym c.loop-place.invariant
    ∙ ap (list_all (λ place. not (is_some place))) (drop_all c.loop-place.place-index c.deref-place-items.result.now c.loop-place-test.false))
    n (bit_and n c.args.self.now.mask)
