use Rattle.std.proofs.Common.{◌≡◌, ◌++◌, List, drop}
use Rattle.route_credit.specs.Pool.{by_id}
use Rattle.router_trace.specs.Configuration.{distribution}
use Rattle.router_trace.specs.Trace.{Entry}
use Rattle.state_links.specs.Fits.{LinksFit}
use Rattle.state_messages.specs.Fits.{ShareAs}
use Rattle.state_messages.specs.Messages.{grants_on}
use Rattle.state_messages.proofs.granting.told.Given as goal

-- the grants added and those still to come are all
abbrev pub invariant-loop-sum : goal.invariant-loop-sum
invariant-loop-sum l = (t : List Entry) → LinksFit l.links t → ShareAs l.pools (distribution t) → l.told.items ++ grants_on t (by_id (drop l.sum-index l.sums)) ≡ grants_on t (by_id l.fn.sums)
