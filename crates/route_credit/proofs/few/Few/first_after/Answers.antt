use Rattle.std.proofs.Common.{◌+◌, ℕ, None, get_or}
use Rattle.std.specs.Prelude.{nat_lt, if◌then◌else◌}
use Rattle.route_credit.specs.Few.{count, is_there, once}
use Rattle.route_credit.specs.declared.place.Place.{Place}
use Rattle.route_credit.proofs.Firsts.{at_four_after, same_first}
use Rattle.route_credit.proofs.few.Few.first_after.Goals as goal

pub returns : goal.returns
returns c =
    let few = c.args.self.now.places in
    let id = c.args.id in
    let at = λ (q : ℕ) (place : Place). if nat_lt id place.id then once (is_there (get_or few q None) place) else 0 in
    same_first (λ place. (at 0 place + at 1 place) + (at 2 place + at 3 place)) (λ place. if nat_lt id place.id then count few place else 0) (at_four_after few c.args.self.now.four id) c.sooner-2.result
    (c.sooner-2.ensures (λ place. at 0 place + at 1 place) (λ place. at 2 place + at 3 place)
    (c.sooner-one.ensures (at 0) (at 1) c.behind.ensures c.behind-2.ensures)
    (c.sooner.ensures (at 2) (at 3) c.behind-3.ensures c.behind-4.ensures))
