use Rattle.amqp_perf.proofs.PerfStaying.{perf_fault_stays, no_perf_goes_on, perf_used_all}
use Rattle.amqp_perf.proofs.laws.a_fault_stays.Goals as goal

pub returns-clause-stays : goal.returns-clause-stays
returns-clause-stays c = perf_fault_stays

pub returns-clause-none : goal.returns-clause-none
returns-clause-none c = no_perf_goes_on

pub returns-clause-truncated : goal.returns-clause-truncated
returns-clause-truncated c = perf_used_all
