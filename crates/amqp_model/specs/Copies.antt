-- What an outcome holds (AMQP 1.0 part 3, section 3.4).
use Rattle.std.specs.Prelude.{Bool, true, false}
use Rattle.amqp_model.specs.declared.state.DeliveryState.{DeliveryState}
use Rattle.amqp_model.specs.declared.state.DeliveryState.TheVariants as state

-- it holds no memory of its own
abbrev pub is_plain : DeliveryState → Bool
is_plain (state.Received r) = true
is_plain state.Accepted = true
is_plain state.Released = true
is_plain _ = false
