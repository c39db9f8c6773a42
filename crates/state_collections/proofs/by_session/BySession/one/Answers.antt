use Rattle.amqp_session.proofs.Ranges.{none_rises}
use Rattle.state_collections.proofs.Ids.{one_rises}
use Rattle.state_collections.proofs.by_session.BySession.one.Goals as goal

pub returns-then-is_none-clause-rising : goal.returns-then-is_none-clause-rising
returns-then-is_none-clause-rising g c = none_rises c.args.id c.new-ids.result.items c.new-ids.ensures.items

pub returns-clause-rising : goal.returns-clause-rising
returns-clause-rising g c = one_rises c.args.id c.new.result c.new-ids.result.items c.push.new.self.items c.new-ids.ensures.items c.in_ok-push.ensures.items
