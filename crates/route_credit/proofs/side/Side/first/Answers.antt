use Rattle.std.proofs.Common.{◌∙◌, ap}
use Rattle.std.specs.Prelude.{option_map}
use Rattle.route_credit.proofs.Alone.{one_first, several_first}
use Rattle.route_credit.proofs.side.Side.first.Goals as goal

pub returns-in-One : goal.returns-in-One
returns-in-One g c whole =
    one_first (g.T.Weigh.rank c.args.distribution) c.args.self.now c.in-One.one c.in-One.link c.turn.result c.in-One.is (c.turn.ensures ∙ ap (option_map (λ n. c.in-One.one)) c.rank.ensures)

pub returns-in-Several : goal.returns-in-Several
returns-in-Several g c =
    several_first (g.T.Weigh.rank c.args.distribution) g.T.Weigh.amount c.args.self.now c.in-Several.links c.first.result c.in-Several.is (c.first.ensures (g.T.Weigh.rank c.args.distribution))
