use Rattle.std.proofs.Common.{◌+◌, None, Some}
use Rattle.std.specs.BTreeSet.{contains}
use Rattle.std.specs.Prelude.{nat_lt, if◌then◌else◌}
use Rattle.route_credit.specs.Few.{count, once}
use Rattle.route_credit.specs.Ranks.{behind, place_cmp}
use Rattle.route_credit.specs.declared.place.Place.{Place}
use Rattle.route_credit.proofs.Firsts.{least_after, least_of, ranked_there}
use Rattle.route_credit.proofs.ranking.Ranking.first_after.Goals as goal

pub returns-in-None : goal.returns-in-None
returns-in-None c ranks fits zero =
    let ranking = c.args.self.now in
    let few = λ (place : Place). if nat_lt c.args.id place.id then count ranking.few.places place else 0 in
    let more = λ (place : Place). if nat_lt c.args.id place.id then once (contains place_cmp ranking.more place) else 0 in
    least_of (λ place. few place + more place) (behind c.args.id ranks) (least_after ranks c.args.id ranking fits) None
    (c.in-None.ensures few more c.first_after.ensures (c.first_after-2.ensures (λ place there. zero place.id place.rank (ranked_there ranking ranks fits place there))))

pub returns-in-Some : goal.returns-in-Some
returns-in-Some c ranks fits zero =
    let ranking = c.args.self.now in
    let few = λ (place : Place). if nat_lt c.args.id place.id then count ranking.few.places place else 0 in
    let more = λ (place : Place). if nat_lt c.args.id place.id then once (contains place_cmp ranking.more place) else 0 in
    least_of (λ place. few place + more place) (behind c.args.id ranks) (least_after ranks c.args.id ranking fits) (Some c.in-Some.next)
    (c.in-Some.ensures few more c.first_after.ensures (c.first_after-2.ensures (λ place there. zero place.id place.rank (ranked_there ranking ranks fits place there))))
