use Rattle.amqp_perf.proofs.TableLaws.{no_perf_begins_another, no_state_begins_another}
use Rattle.amqp_perf.proofs.laws.none_begins_another.Goals as goal

pub returns-clause-performative : goal.returns-clause-performative
returns-clause-performative c = no_perf_begins_another

pub returns-clause-state : goal.returns-clause-state
returns-clause-state c = no_state_begins_another
