use Rattle.std.proofs.Common.{rules, ◌≡◌, sym, ◌∙◌, true, subst}
use Rattle.route_credit.specs.Pool.{need}
use Rattle.route_credit.specs.Links.{IsLeast}
use Rattle.route_credit.proofs.Choices.{next_first}
use Rattle.route_credit.proofs.pool.Pool.next_producer.Goals as goal

pub returns-clause-next : goal.returns-clause-next
returns-clause-next c =
    let long : c.is_short.result ≡ true = search rules in
    next_first c.args.self.now c.first.result (sym c.is_short.ensures.short ∙ long)
    (subst (λ p. IsLeast (need p) c.first.result) c.self.view_is (c.first.ensures c.self.invariant.1))
