use Rattle.std.proofs.Common.{◌≡◌, ◌++◌}
use Rattle.route_credit.specs.Pool.{by_id}
use Rattle.route_credit.proofs.tally.in_order.Given as goal

abbrev pub invariant-loop-id : goal.invariant-loop-id
invariant-loop-id l = by_id l.told.items ++ l.id-iterator ≡ l.sums.entries
