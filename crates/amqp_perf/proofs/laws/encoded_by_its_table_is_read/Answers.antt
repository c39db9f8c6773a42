use Rattle.amqp_perf.proofs.TableLaws.{spelled_perf_read, spelled_state_read}
use Rattle.amqp_perf.proofs.laws.encoded_by_its_table_is_read.Goals as goal

pub returns-clause-performative : goal.returns-clause-performative
returns-clause-performative c = spelled_perf_read

pub returns-clause-state : goal.returns-clause-state
returns-clause-state c = spelled_state_read
