use Rattle.amqp_perf.proofs.WrittenPerformatives.{performative_again, state_again}
use Rattle.amqp_perf.proofs.laws.written_is_read_again.Goals as goal

pub returns-clause-performative : goal.returns-clause-performative
returns-clause-performative c = performative_again

pub returns-clause-state : goal.returns-clause-state
returns-clause-state c = state_again
