use Rattle.std.proofs.Common.{ap}
use Rattle.std.specs.Prelude.{Option}
use Rattle.std.specs.Option.{unwrap_or}
use Rattle.amqp_model.specs.declared.state.DeliveryState.{DeliveryState}
use Rattle.journal_codec.proofs.Kept.{keeps_itself}
use Rattle.journal_codec.proofs.Terminal.{is_outcome}
use Rattle.journal_store.specs.Lost.{failed}
use Rattle.journal_store.proofs.Settled.{written_is_outcome, written_is_short}
use Rattle.journal_store.proofs.laws.outcomes_are_written.Goals as goal

pub returns-clause-outcome : goal.returns-clause-outcome
returns-clause-outcome c = written_is_outcome

pub returns-clause-short : goal.returns-clause-short
returns-clause-short c = written_is_short

pub returns-clause-itself : goal.returns-clause-itself
returns-clause-itself c = λ state terminal fits short.
    ap (λ (o : Option DeliveryState). unwrap_or o failed) (keeps_itself state (is_outcome state terminal fits) short)
