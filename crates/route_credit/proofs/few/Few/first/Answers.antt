use Rattle.std.proofs.Common.{◌+◌, ℕ, None, get_or}
use Rattle.route_credit.specs.Few.{count, is_there, once}
use Rattle.route_credit.specs.declared.place.Place.{Place}
use Rattle.route_credit.proofs.Counted.{at_four}
use Rattle.route_credit.proofs.Firsts.{itself, same_first}
use Rattle.route_credit.proofs.few.Few.first.Goals as goal

pub returns : goal.returns
returns c =
    let few = c.args.self.now.places in
    let at = λ (q : ℕ) (place : Place). once (is_there (get_or few q None) place) in
    same_first (λ place. (at 0 place + at 1 place) + (at 2 place + at 3 place)) (count few) (at_four few c.args.self.now.four) c.sooner-2.result
    (c.sooner-2.ensures (λ place. at 0 place + at 1 place) (λ place. at 2 place + at 3 place)
    (c.sooner-one.ensures (at 0) (at 1) (itself (get_or few 0 None)) (itself (get_or few 1 None)))
    (c.sooner.ensures (at 2) (at 3) (itself (get_or few 2 None)) (itself (get_or few 3 None))))
