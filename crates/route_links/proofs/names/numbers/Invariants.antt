use Rattle.std.proofs.Common.{◌≡◌, ◌++◌, map}
use Rattle.std.specs.Prelude.{drop, take}
use Rattle.std.specs.List.{filter_map}
use Rattle.std.specs.Ordering.{nat_cmp}
use Rattle.std.specs.BTreeMap.{get}
use Rattle.route_links.proofs.Listed.{AllSmall}
use Rattle.route_links.proofs.names.numbers.Given as goal

abbrev pub invariant-loop-id : goal.invariant-loop-id
invariant-loop-id l =
    let named = get nat_cmp l.fn.by_id.deliveries in
    (map (λ n. n.0) l.numbers.items ++ filter_map named (drop l.id-index l.id-items) ≡ filter_map named l.id-items) × AllSmall (take l.id-index l.id-items)
