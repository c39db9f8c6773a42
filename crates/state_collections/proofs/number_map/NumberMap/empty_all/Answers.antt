use Rattle.std.proofs.Common.{rules, ◌∙◌, ap}
use Rattle.std.proofs.lemmas.Map.Made.{map_same_pairs, lookup-map_values}
use Rattle.std.specs.BTreeMap.{get, is_at}
use Rattle.std.specs.Map.{lookup}
use Rattle.std.specs.Ordering.{nat_cmp}
use Rattle.std.specs.Option.{option_map}
use Rattle.state_collections.specs.NumberMap.{in_places, or_else}
use Rattle.state_collections.proofs.Emptied.{emptied_or}
use Rattle.state_collections.proofs.number_map.NumberMap.empty_all.Goals as goal

pub returns : goal.returns
returns g c =
    let rest = g.V.Empties.rest in
    let now = c.args.self.now in
    let is = map_same_pairs _ rest _ (λ k v b w f' t. search rules) _ _ c.retain.ensures.filtered in
    λ n.
    ap (λ place. or_else place (get nat_cmp c.retain.new.self n)) (c.empty_all.ensures n)
    ∙ ap (λ other. or_else (option_map rest (in_places now.placed n)) other) (ap (lookup (is_at (nat_cmp n))) is ∙ lookup-map_values rest (is_at (nat_cmp n)) now.others.entries)
    ∙ emptied_or rest (in_places now.placed n) (get nat_cmp now.others n)
