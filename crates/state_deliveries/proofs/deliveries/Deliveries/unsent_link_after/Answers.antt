use Rattle.router_trace.specs.Deliveries.{delivery, rank_at}
use Rattle.router_trace.specs.Following.{is_unsent_on}
use Rattle.state_deliveries.specs.Ranking.{in_group}
use Rattle.state_deliveries.proofs.Asked.{first_link, unsent_in}
use Rattle.state_deliveries.proofs.Unsent.{links_are}
use Rattle.state_deliveries.proofs.deliveries.Deliveries.unsent_link_after.Goals as goal

pub returns : goal.returns
returns c = λ t fit.
    let store = c.args.self.now.store in
    links_are t c.args.link _
    (first_link (in_group store.index.unsent) (rank_at t) (λ k n. is_unsent_on k (delivery t n)) (unsent_in store t fit.store) c.args.link _ c.unsent_link_after.ensures)
