use Rattle.std.proofs.Common.{None, Some}
use Rattle.std.specs.BTreeSet.{contains}
use Rattle.route_credit.specs.Few.{count, once}
use Rattle.route_credit.specs.Ranks.{place_cmp, times}
use Rattle.route_credit.proofs.Firsts.{least_of}
use Rattle.route_credit.proofs.ranking.Ranking.first.Goals as goal

pub returns-in-None : goal.returns-in-None
returns-in-None c ranks fits =
    let ranking = c.args.self.now in
    least_of (times ranking) ranks fits None (c.in-None.ensures (count ranking.few.places) (λ place. once (contains place_cmp ranking.more place)) c.first.ensures c.first-2.ensures)

pub returns-in-Some : goal.returns-in-Some
returns-in-Some c ranks fits =
    let ranking = c.args.self.now in
    least_of (times ranking) ranks fits (Some c.in-Some.place) (c.in-Some.ensures (count ranking.few.places) (λ place. once (contains place_cmp ranking.more place)) c.first.ensures c.first-2.ensures)
