use Rattle.route_credit.proofs.Firsts.{first_none, first_some}
use Rattle.route_credit.proofs.ranking.first.Goals as goal

pub returns-in-None : goal.returns-in-None
returns-in-None c = first_none c.args.places.now c.in-None.ensures.variant.1

pub returns-in-Some : goal.returns-in-Some
returns-in-Some c = first_some c.args.places.now c.in-Some.place.now c.in-Some.ensures.member c.in-Some.ensures.least
