-- An outcome that holds no memory of its own has no error.
use Rattle.std.proofs.Common.{◌≡◌, true, refl}
use Rattle.amqp_model.specs.declared.state.DeliveryState.{DeliveryState}
use Rattle.amqp_model.specs.declared.state.DeliveryState.TheVariants as state
use Rattle.amqp_model.specs.Copies.{is_plain}
use Rattle.router_trace.specs.DeliveryFrames.{undescribed}

pub plain_undescribed : (s : DeliveryState) → is_plain s ≡ true → is_plain (undescribed s) ≡ true
plain_undescribed (state.Received r) plain = refl
plain_undescribed state.Accepted plain = refl
plain_undescribed (state.Rejected r) plain = plain
plain_undescribed state.Released plain = refl
plain_undescribed (state.Modified m) plain = plain
plain_undescribed (state.Other v) plain = plain
