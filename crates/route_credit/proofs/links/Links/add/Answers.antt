use Rattle.std.proofs.Common.{rules, ◌≡◌, ap, refl, ◌+◌, arith}
use Rattle.std.specs.Prelude.{option_and_then}
use Rattle.route_credit.specs.Ranks.{rank_at, ranked}
use Rattle.route_credit.specs.Links.{amount_at}
use Rattle.route_credit.proofs.Indices.{indexed_set, indexed_back, ranked_here}
use Rattle.route_credit.proofs.links.Links.add.Goals as goal

pub returns-in_err-set-clause-whole : goal.returns-in_err-set-clause-whole
returns-in_err-set-clause-whole g c none is = record { ranks = c.in_err-set.ensures.err _ is.ranks; total = is.total; ordered = is.ordered }

pub returns-in-Err-clause-whole : goal.returns-in-Err-clause-whole
returns-in-Err-clause-whole g c none is =
    let rank = g.T.Weigh.rank c.args.distribution in
    let ranks = rank_at rank c.args.self.now.rows.entries in
    indexed_back rank g.T.Weigh.amount c.args.self.now (record { rows = c.insert.new.self; ranking = c.unset.new.self; total = c.args.self.now.total }) c.args.id c.rank-after.result is none
    (c.unset.ensures (ranked ranks c.args.id c.rank-after.result) (c.in_ok-set.ensures.ranks ranks is.ranks (ap (option_and_then rank) none)) (ranked_here ranks c.args.id c.rank-after.result)) c.in-Err.ensures.err refl

pub returns-clause-whole : goal.returns-clause-whole
returns-clause-whole g c none is =
    let rank = g.T.Weigh.rank c.args.distribution in
    let amount = g.T.Weigh.amount in
    let ranks = rank_at rank c.args.self.now.rows.entries in
    let sum : c.in-Some.total ≡ c.args.self.now.total + c.amount.result = search rules in
    let part = c.amount.ensures in
    let nothing = ap (amount_at amount) none in
    indexed_set rank amount c.args.self.now (record { rows = c.insert.new.self; ranking = c.set.new.self; total = c.in-Some.total }) c.args.id c.args.link c.rank-after.result c.rank-after.ensures c.in-Ok.ensures.was_ordered is
    (c.in_ok-set.ensures.ranks ranks is.ranks (ap (option_and_then rank) none))
    c.in-Ok.ensures.entries c.in-Ok.ensures.updates.0
    (omega (arith, sum, part, nothing)) c.in-Ok.ensures.ordered
