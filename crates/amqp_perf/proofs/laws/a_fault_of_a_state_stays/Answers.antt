use Rattle.amqp_perf.proofs.PerfStaying.{state_fault_stays, no_state_goes_on, state_used_all}
use Rattle.amqp_perf.proofs.laws.a_fault_of_a_state_stays.Goals as goal

pub returns-clause-stays : goal.returns-clause-stays
returns-clause-stays c = state_fault_stays

pub returns-clause-none : goal.returns-clause-none
returns-clause-none c = no_state_goes_on

pub returns-clause-truncated : goal.returns-clause-truncated
returns-clause-truncated c = state_used_all
