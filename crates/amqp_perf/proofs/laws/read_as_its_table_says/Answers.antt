use Rattle.amqp_perf.proofs.TableLaws.{read_perf_spelled, read_state_spelled}
use Rattle.amqp_perf.proofs.laws.read_as_its_table_says.Goals as goal

pub returns-clause-performative : goal.returns-clause-performative
returns-clause-performative c = read_perf_spelled

pub returns-clause-state : goal.returns-clause-state
returns-clause-state c = read_state_spelled
