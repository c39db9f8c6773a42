use Rattle.std.proofs.Common.{arith}
use Rattle.route_links.proofs.Empties.{no_items}
use Rattle.route_links.proofs.leg.pop.Goals as goal

pub returns-in_default-clause-empty : goal.returns-in_default-clause-empty
returns-in_default-clause-empty c = no_items c.pop_front.new.self.items (omega (arith, c.pop_front.new.self.ok.0, c.in_default.ensures.cases.1))
