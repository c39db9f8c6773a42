use Rattle.amqp_types.proofs.Staying.{fault_stays, none_goes_on, all_were_used}
use Rattle.amqp_types.proofs.laws.a_fault_stays.Goals as goal

pub returns-clause-stays : goal.returns-clause-stays
returns-clause-stays c = fault_stays

pub returns-clause-none : goal.returns-clause-none
returns-clause-none c = none_goes_on

pub returns-clause-truncated : goal.returns-clause-truncated
returns-clause-truncated c = all_were_used
