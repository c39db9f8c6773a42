-- The first transfer of a delivery that is resumed.
use Rattle.std.proofs.Common.{◌≡◌, Bool, true, false, Option, Some, None, refl}
use Rattle.std.specs.Prelude.{◌&&◌, is_some}
use Rattle.amqp_model.specs.declared.state.DeliveryState.{DeliveryState}
use Rattle.router_trace.specs.DeliveryFrames.{outcome_if}

-- it has a state exactly if it settles the delivery
pub state_is_there : (resumed : Bool) (outcome : Option DeliveryState) → is_some (outcome_if (resumed && is_some outcome) outcome) ≡ (resumed && is_some outcome)
state_is_there true None = refl
state_is_there true (Some s) = refl
state_is_there false outcome = refl
