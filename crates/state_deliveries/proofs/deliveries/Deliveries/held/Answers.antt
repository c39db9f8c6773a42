use Rattle.std.proofs.Common.{◌∙◌, refl, sym, subst}
use Rattle.router_trace.specs.Deliveries.{delivery, held_from}
use Rattle.router_trace.specs.Counting.{IsCount}
use Rattle.state_deliveries.proofs.Asked.{held_in}
use Rattle.state_deliveries.proofs.Numbers.{count_deliveries_is}
use Rattle.state_deliveries.proofs.deliveries.Deliveries.held.Goals as goal

pub returns-clause-found : goal.returns-clause-found
returns-clause-found c = λ t fit. subst (IsCount (λ n. held_from c.args.link (delivery t n))) (sym c.held.ensures) (held_in c.args.self.now.store t fit.store c.args.link)

pub returns-clause-count : goal.returns-clause-count
returns-clause-count c = λ t fit. c.held.ensures ∙ count_deliveries_is t (held_from c.args.link) refl _ (held_in c.args.self.now.store t fit.store c.args.link)
