use Rattle.amqp_link.proofs.Within.{no_more_starts}
use Rattle.amqp_link.proofs.laws.no_more_is_started_than_granted.Goals as goal

pub returns-clause-starts : goal.returns-clause-starts
returns-clause-starts c = no_more_starts
