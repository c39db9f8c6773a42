use Rattle.std.proofs.Common.{◌≡◌, ◌++◌}
use Rattle.std.specs.Map.{keys_of}
use Rattle.state_collections.proofs.number_map.append_keys.Given as goal

-- those appended so far, and the others
abbrev pub invariant-loop-number : goal.invariant-loop-number
invariant-loop-number g l = l.numbers.items ++ keys_of l.number-iterator ≡ l.fn.numbers.items ++ keys_of l.values.entries
