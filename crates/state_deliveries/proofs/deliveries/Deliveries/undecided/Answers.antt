use Rattle.std.proofs.Common.{◌∙◌, refl, sym, subst}
use Rattle.router_trace.specs.Deliveries.{delivery, undecided_on}
use Rattle.router_trace.specs.Counting.{IsCount}
use Rattle.state_deliveries.proofs.Asked.{undecided_in}
use Rattle.state_deliveries.proofs.Numbers.{count_deliveries_is}
use Rattle.state_deliveries.proofs.deliveries.Deliveries.undecided.Goals as goal

pub returns-clause-found : goal.returns-clause-found
returns-clause-found c = λ t fit. subst (IsCount (λ n. undecided_on c.args.link (delivery t n))) (sym c.undecided.ensures) (undecided_in c.args.self.now.store t fit.store c.args.link)

pub returns-clause-count : goal.returns-clause-count
returns-clause-count c = λ t fit. c.undecided.ensures ∙ count_deliveries_is t (undecided_on c.args.link) refl _ (undecided_in c.args.self.now.store t fit.store c.args.link)
