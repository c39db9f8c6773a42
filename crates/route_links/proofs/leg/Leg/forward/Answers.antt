use Rattle.std.proofs.Common.{rules}
use Rattle.route_links.proofs.Mirrored.{one_more_as}
use Rattle.route_links.proofs.leg.Leg.forward.Goals as goal

pub returns-clause-mirror : goal.returns-clause-mirror
returns-clause-mirror c = one_more_as _ c.args.self.now c.args.passing (search rules)
