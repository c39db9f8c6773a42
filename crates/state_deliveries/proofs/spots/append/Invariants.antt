use Rattle.std.proofs.Common.{◌≡◌, ◌++◌}
use Rattle.state_deliveries.specs.Placing.{numbers_of}
use Rattle.state_deliveries.proofs.spots.append.Given as goal

abbrev pub invariant-loop-key : goal.invariant-loop-key
invariant-loop-key l = l.numbers.items ++ numbers_of l.key-iterator ≡ l.fn.numbers.items ++ numbers_of l.fn.keys
