use Rattle.route_links.specs.Releases.{IsFar, size_left}
use Rattle.route_links.proofs.leg.Leg.release.Given as goal

abbrev pub invariant-turns : goal.invariant-turns
invariant-turns l = IsFar l.fn.allowed l.fn.self l.fn.out.items l.out.items l.self l.still

abbrev pub decreases-turns : goal.decreases-turns
decreases-turns l = size_left l.still l.self
