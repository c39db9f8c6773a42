use Rattle.std.proofs.Common.{◌<◌, ℕ, IfSome, IfNone}
use Rattle.amqp_sasl.specs.Users.{HasUser}
use Rattle.amqp_sasl.proofs.user.place_of.Given as goal

abbrev pub invariant-loop-place : goal.invariant-loop-place
invariant-loop-place l = record {
  found : IfSome l.found (λ k. HasUser l.users l.name l.password k);
  missed : IfNone l.found ((k : ℕ) → k < l.place → ¬ HasUser l.users l.name l.password k);
}
