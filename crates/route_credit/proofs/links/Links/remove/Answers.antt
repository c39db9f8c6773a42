use Rattle.std.proofs.Common.{◌∙◌, sym, ap, not}
use Rattle.route_credit.proofs.Lookups.{absent_gone}
use Rattle.route_credit.proofs.links.Links.remove.Goals as goal

pub returns-else-contains_key-clause-removed : goal.returns-else-contains_key-clause-removed
returns-else-contains_key-clause-removed g c = absent_gone c.args.self.now.rows.entries c.args.id (ap not (sym c.contains_key.ensures ∙ c.if-contains_key.false))
