-- A terminal state is an outcome.
use Rattle.std.proofs.Common.{◌≡◌, ℕ, List, [], subst, length, append-nil}
use Rattle.amqp_model.specs.declared.state.DeliveryState.{DeliveryState}
use Rattle.amqp_model.specs.declared.state.DeliveryState.TheVariants as states
use Rattle.amqp_perf.specs.Fitting.{FitsState, read_as}
use Rattle.amqp_perf.specs.Performative.{state as state_at}
use Rattle.amqp_model.specs.PerfSpelling.{state_spelling}
use Rattle.amqp_perf.proofs.WrittenPerformatives.{state_again}
use Rattle.journal_codec.specs.Batches.{IsTerminal, IsOutcome}

pub is_outcome : (s : DeliveryState) → IsTerminal s → FitsState 32 s → IsOutcome s
is_outcome s terminal fits = record {
  terminal = terminal;
  reads_back =
      subst (λ (bytes : List ℕ). state_at bytes ≡ read_as s (length (state_spelling s)))
      (append-nil (state_spelling s)) (state_again s [] fits);
}

pub accepted : IsOutcome states.Accepted
accepted = is_outcome states.Accepted tt tt
