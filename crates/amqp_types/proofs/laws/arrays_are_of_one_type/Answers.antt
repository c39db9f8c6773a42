use Rattle.amqp_types.proofs.Typed.{spelled_typed}
use Rattle.amqp_types.proofs.laws.arrays_are_of_one_type.Goals as goal

pub returns : goal.returns
returns c = spelled_typed
