use Rattle.std.proofs.Common.{◌∙◌, ap, None, Some}
use Rattle.route_credit.specs.Granting.{choice}
use Rattle.state_collections.specs.NumberMap.{at_number}
use Rattle.state_pools.proofs.Rows.{found, stands}
use Rattle.state_pools.proofs.by_address.ByAddress.peek.Goals as goal

pub returns-in-None : goal.returns-in-None
returns-in-None c there share = ap choice (found share (at_number c.args.self.now.rows) c.args.address.now c.args.digest c.requires None c.in-None.ensures)

pub returns-in-Some : goal.returns-in-Some
returns-in-Some c there share = c.peek.ensures (stands (at_number c.args.self.now.rows) c.args.address.now c.args.digest (Some c.in-Some.row.now) c.requires c.in-Some.ensures there) share ∙ ap choice (found share (at_number c.args.self.now.rows) c.args.address.now c.args.digest c.requires (Some c.in-Some.row.now) c.in-Some.ensures)
