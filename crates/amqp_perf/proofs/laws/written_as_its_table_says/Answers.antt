use Rattle.amqp_perf.proofs.TableLaws.{written_perf_spelled, written_state_spelled}
use Rattle.amqp_perf.proofs.laws.written_as_its_table_says.Goals as goal

pub returns-clause-performative : goal.returns-clause-performative
returns-clause-performative c = written_perf_spelled

pub returns-clause-state : goal.returns-clause-state
returns-clause-state c = written_state_spelled
