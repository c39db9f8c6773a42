use Rattle.amqp_session.proofs.Ranges.{none_rises}
use Rattle.state_collections.proofs.by_session.BySession.in_range.Goals as goal

pub returns-in-None-clause-rising : goal.returns-in-None-clause-rising
returns-in-None-clause-rising g c = none_rises c.args.first c.new.result.items c.new.ensures.items
