use Rattle.std.proofs.Common.{rules}
use Rattle.route_links.proofs.Mirrored.{only_detaches_as}
use Rattle.route_links.proofs.leg.Leg.drop_held.Goals as goal

pub returns-clause-mirror : goal.returns-clause-mirror
returns-clause-mirror c = only_detaches_as _ c.args.self.now (search rules)
