use Rattle.std.proofs.Common.{◌≡◌, ◌++◌}
use Rattle.std.specs.List.{flat_map}
use Rattle.state_collections.specs.NumberMap.{at_number}
use Rattle.state_deliveries.specs.Deciding.{decision_of}
use Rattle.state_deliveries.proofs.deciding.append_decisions.Given as goal

-- the decisions so far, and those of the remaining numbers
abbrev pub invariant-loop-number : goal.invariant-loop-number
invariant-loop-number l = l.rows.items ++ flat_map (λ n. decision_of l.changes (at_number l.store.deliveries n)) l.number-iterator
    ≡ l.fn.rows.items ++ flat_map (λ n. decision_of l.changes (at_number l.store.deliveries n)) l.numbers.keys
