-- What the first transfer of a delivery says of a row that is taken up again, and how long it is (AMQP 1.0 part 2,
-- section 2.6.13).
use Rattle.std.specs.Prelude.{ℕ, Bool, true, false, ◌&&◌, is_some, Option}
use Rattle.amqp_model.specs.declared.state.DeliveryState.{DeliveryState}
use Rattle.router_trace.specs.Deliveries.{Delivery}
use Rattle.router_trace.specs.DeliveryFrames.{outcome_if}
use Rattle.reply_frames.specs.declared.transfer.Resuming.{Resuming}

-- it only settles the delivery: that is resumed, and decided
abbrev pub settles_as : Bool → Option DeliveryState → Bool
settles_as resumed outcome = resumed && is_some outcome

abbrev pub resuming_as : Bool → Option DeliveryState → Resuming
resuming_as resumed outcome = record { resume = resumed; settling = outcome_if (settles_as resumed outcome) outcome }

-- The bytes of a first frame beside its payload, at most, if it doesn't settle the delivery: `resume` takes three more.
abbrev pub beside_as : Bool → ℕ
beside_as true = 45
beside_as false = 42

abbrev pub beside_of : Delivery → ℕ
beside_of d = beside_as d.resumed
