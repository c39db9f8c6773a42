use Rattle.amqp_session.proofs.Kept.{within}
use Rattle.amqp_session.proofs.laws.no_more_is_sent_than_told.Goals as goal

pub returns : goal.returns
returns c = within
