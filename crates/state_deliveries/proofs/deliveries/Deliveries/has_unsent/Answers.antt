use Rattle.std.proofs.Common.{◌∙◌, ap, refl, None}
use Rattle.state_collections.specs.NumberMap.{at_number}
use Rattle.router_trace.specs.Deliveries.{delivery, ranked, rank_at}
use Rattle.router_trace.specs.Following.{is_unsent_on}
use Rattle.state_deliveries.specs.Ranking.{in_group}
use Rattle.state_deliveries.proofs.Asked.{first_by, unsent_in}
use Rattle.state_deliveries.proofs.Unsent.{some_by}
use Rattle.state_deliveries.proofs.deliveries.Deliveries.has_unsent.Goals as goal

pub returns : goal.returns
returns c = λ t fit.
    let store = c.args.self.now.store in
    c.is_some.ensures ∙ some_by t (is_unsent_on c.args.link) (rank_at t) refl _
    (first_by (in_group store.index.unsent c.args.link) (at_number store.deliveries) (rank_at t) (λ n. is_unsent_on c.args.link (delivery t n)) None _
    (λ n. ap ranked (fit.store.deliveries n)) (unsent_in store t fit.store c.args.link) c.first_unsent.ensures)
