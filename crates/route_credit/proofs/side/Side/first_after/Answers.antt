use Rattle.std.proofs.Common.{◌∙◌, ap}
use Rattle.std.specs.Prelude.{option_map}
use Rattle.route_credit.proofs.Alone.{one_first_after, several_first_after}
use Rattle.route_credit.proofs.side.Side.first_after.Goals as goal

pub returns-then-id-one : goal.returns-then-id-one
returns-then-id-one g c whole flat =
    one_first_after (g.T.Weigh.rank c.args.distribution) c.args.self.now c.args.id c.in-One.one c.in-One.link c.turn.result c.in-One.is
    (c.turn.ensures ∙ ap (option_map (λ n. c.in-One.one)) c.rank.ensures) c.if-id-one.true

pub returns-in-Several : goal.returns-in-Several
returns-in-Several g c =
    several_first_after (g.T.Weigh.rank c.args.distribution) g.T.Weigh.amount c.args.self.now c.in-Several.links c.args.id c.first_after.result c.in-Several.is (c.first_after.ensures (g.T.Weigh.rank c.args.distribution))
