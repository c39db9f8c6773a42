use Rattle.std.proofs.Common.{◌∙◌, ◌||◌, ap, refl, bit_and, drop}
use Rattle.std.specs.List.{list_any}
use Rattle.std.specs.Option.{is_some}
use Rattle.std.proofs.lemmas.List.{drop_all}
use Rattle.amqp_session.specs.Ranges.{has}
use Rattle.state_collections.specs.NumberMap.{in_places, tells}
use Rattle.state_collections.proofs.Remainders.{all_told, at_end}
use Rattle.state_collections.proofs.number_map.Places.append_numbers.Goals as goal

pub returns : goal.returns
returns g c = λ n.
    let found = is_some (in_places c.args.self.now n) in
    let places = c.deref-place-items.result.now in
    at_end (tells found n) (drop c.loop-place.place-index places) (has n c.loop-place.numbers.items) _ (drop_all c.loop-place.place-index places c.loop-place-test.false) (c.loop-place.invariant n)
    ∙ ap (λ b. has n c.args.numbers.now.items || b)
    (ap (list_any (tells found n)) c.deref-place-items.ensures.value ∙ all_told n (bit_and n c.args.self.now.mask) c.args.self.now.places.items found refl)
