use Rattle.std.proofs.Common.{rules, ◌≡◌, ◌≤◌, ◌+◌, ◌-◌, refl, sym, subst}
use Rattle.route_credit.specs.Few.{is_there, once}
use Rattle.route_credit.specs.Ranks.{Ranks, times}
use Rattle.route_credit.specs.declared.few.Few.{Few}
use Rattle.route_credit.specs.declared.place.Place.{Place}
use Rattle.route_credit.specs.declared.ranking.Ranking.{Ranking}
use Rattle.route_credit.proofs.Moved.{ranks_put}
use Rattle.route_credit.proofs.ranking.Ranking.set.Goals as goal

pub returns-clause-ranks : goal.returns-clause-ranks
returns-clause-ranks c = λ ranks fits is.
    let with : Few → Ranking = λ few. record { few = few; more = c.args.self.now.more } in
    let other : c.args.before ≡ c.args.after → ⊥ = search rules in
    ranks_put (with c.replace.new.self) c.put.new.self c.take.new.self ranks c.args.id c.args.before c.args.after
    (subst (λ few. Ranks (with few) ranks) (sym (c.if-replace.ensures.kept refl)) fits) is other
    (subst (λ to. (p : Place) → times (with c.replace.new.self) p + once (is_there to p) ≤ 1 → times c.put.new.self p ≡ times (with c.replace.new.self) p + once (is_there to p)) c.of-to.ensures c.in_ok-put.ensures.put)
    (subst (λ from. (p : Place) → times c.put.new.self p ≤ 1 → times c.take.new.self p ≡ times c.put.new.self p - once (is_there from p)) c.of-from.ensures c.take.ensures)
