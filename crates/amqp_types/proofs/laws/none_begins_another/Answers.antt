use Rattle.amqp_types.proofs.Lengths.{none_begins}
use Rattle.amqp_types.proofs.laws.none_begins_another.Goals as goal

pub returns : goal.returns
returns c = none_begins
