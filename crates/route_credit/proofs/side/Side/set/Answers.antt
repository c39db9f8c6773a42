use Rattle.std.proofs.Common.{◌∙◌, sym}
use Rattle.route_credit.proofs.Alone.{no_other_ordered}
use Rattle.route_credit.proofs.side.Side.set.Goals as goal

pub returns-then-has_no_other-clause-ordered : goal.returns-then-has_no_other-clause-ordered
returns-then-has_no_other-clause-ordered g c = no_other_ordered c.args.self.now c.args.id (sym c.has_no_other.ensures ∙ c.if-has_no_other.true)
