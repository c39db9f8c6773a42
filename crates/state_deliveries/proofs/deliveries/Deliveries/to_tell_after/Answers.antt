use Rattle.std.proofs.Common.{ap}
use Rattle.state_collections.specs.NumberMap.{at_number}
use Rattle.router_trace.specs.Deliveries.{delivery, is_to_tell, ranked, rank_at}
use Rattle.state_deliveries.specs.Ranking.{in_group}
use Rattle.state_deliveries.proofs.Asked.{first_by, to_tell_in}
use Rattle.state_deliveries.proofs.deliveries.Deliveries.to_tell_after.Goals as goal

-- the deliveries whose outcome must be reported agree with the trace
pub returns : goal.returns
returns c = λ t fit.
    let store = c.args.self.now.store in
    first_by (in_group store.index.to_tell 0) (at_number store.deliveries) (rank_at t) (λ n. is_to_tell (delivery t n)) c.args.number _
    (λ n. ap ranked (fit.store.deliveries n)) (to_tell_in store t fit.store) c.to_tell_after.ensures
