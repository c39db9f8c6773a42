use Rattle.std.proofs.Common.{◌≡◌, not, drop}
use Rattle.std.specs.List.{list_all}
use Rattle.std.specs.Option.{is_some}
use Rattle.state_collections.proofs.number_map.Places.is_empty.Given as goal

-- no place so far has a value
abbrev pub invariant-loop-place : goal.invariant-loop-place
invariant-loop-place g l = list_all (λ place. not (is_some place)) (drop l.place-index l.place-items) ≡ list_all (λ place. not (is_some place)) l.place-items
