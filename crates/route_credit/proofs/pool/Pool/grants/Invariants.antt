use Rattle.route_credit.specs.Giving.{IsGiving}
use Rattle.route_credit.specs.Granting.{room}
use Rattle.route_credit.specs.Tally.{tallied}
use Rattle.route_credit.proofs.pool.Pool.grants.Given as goal

abbrev pub invariant-loop-id : goal.invariant-loop-id
invariant-loop-id l = IsGiving l.fn.self l.self (tallied l.sums)

abbrev pub decreases-loop-id : goal.decreases-loop-id
decreases-loop-id l = room l.self
