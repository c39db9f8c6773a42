use Rattle.std.proofs.Common.{◌≡◌, take, length, true, false}
use Rattle.std.specs.Prelude.{◌≢◌}
use Rattle.amqp_sasl.proofs.compare.same_bytes.Given as goal

abbrev pub invariant-loop-place : goal.invariant-loop-place
invariant-loop-place l = record {
  alike : l.same ≡ true → (length l.given ≡ length l.held) × (take l.place l.given ≡ take l.place l.held);
  differ : l.same ≡ false → l.given ≢ l.held;
}
