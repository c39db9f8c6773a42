use Rattle.std.proofs.Common.{◌∙◌, refl, sym, subst}
use Rattle.router_trace.specs.Deliveries.{delivery, waits_on}
use Rattle.router_trace.specs.Counting.{IsCount}
use Rattle.state_deliveries.proofs.Asked.{waits_in}
use Rattle.state_deliveries.proofs.Numbers.{count_deliveries_is}
use Rattle.state_deliveries.proofs.deliveries.Deliveries.waiting.Goals as goal

pub returns-clause-found : goal.returns-clause-found
returns-clause-found c = λ t fit. subst (IsCount (λ n. waits_on c.args.link (delivery t n))) (sym c.waiting.ensures) (waits_in c.args.self.now.store t fit.store c.args.link)

pub returns-clause-count : goal.returns-clause-count
returns-clause-count c = λ t fit. c.waiting.ensures ∙ count_deliveries_is t (waits_on c.args.link) refl _ (waits_in c.args.self.now.store t fit.store c.args.link)
