use Rattle.std.proofs.Common.{rules}
use Rattle.std.specs.Option.{option_map}
use Rattle.state_collections.specs.Emptying.{with_rest}
use Rattle.state_collections.proofs.Emptied.{walked, emptied_at}
use Rattle.state_collections.proofs.number_map.Places.empty_all.Goals as goal

pub returns : goal.returns
returns g c =
    let rest = g.V.Empties.rest in
    let is = walked _ (option_map (with_rest rest)) (λ s x b t y r. search rules) _ _ _ c.retain_mut.ensures.filtered in
    λ n. emptied_at rest c.args.self.now.places.items c.retain_mut.new.self.items c.args.self.now.mask n is
