use Rattle.std.proofs.Common.{◌∙◌, ap}
use Rattle.state_collections.specs.NumberMap.{at_number}
use Rattle.state_deliveries.proofs.Touching.{touches_nothing, touches_then}
use Rattle.state_deliveries.proofs.store.Store.apply.Goals as goal

pub returns-clause-deliveries : goal.returns-clause-deliveries
returns-clause-deliveries c = λ placed keeps indexed n. ap (λ s. at_number s n) c.leave.ensures.deliveries ∙ c.in_ok-change_concerned.ensures.deliveries placed keeps indexed n

pub returns-clause-touches : goal.returns-clause-touches
returns-clause-touches c = touches_then c.args.self.now c.change_concerned.new.self c.leave.new.self c.in_ok-change_concerned.ensures.touches
    (touches_nothing c.change_concerned.new.self c.leave.new.self c.leave.ensures.touched (λ n. ap (λ s. at_number s n) c.leave.ensures.deliveries))
