use Rattle.std.proofs.Common.{◌≡◌, ◌||◌, ℕ, drop}
use Rattle.std.specs.List.{list_any}
use Rattle.std.specs.Option.{is_some}
use Rattle.amqp_session.specs.Ranges.{has}
use Rattle.state_collections.specs.NumberMap.{in_places, tells}
use Rattle.state_collections.proofs.number_map.Places.append_numbers.Given as goal

-- the numbers appended so far, and those of the remaining places
abbrev pub invariant-loop-place : goal.invariant-loop-place
invariant-loop-place g l = (n : ℕ) → (has n l.numbers.items || list_any (tells (is_some (in_places l.self n)) n) (drop l.place-index l.place-items))
    ≡ (has n l.fn.numbers.items || list_any (tells (is_some (in_places l.self n)) n) l.place-items)
