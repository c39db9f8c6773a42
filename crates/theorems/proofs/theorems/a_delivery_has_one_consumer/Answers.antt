use Rattle.theorems.proofs.Bindings.{stays_with_consumer, never_comes_back, of_messages}
use Rattle.theorems.proofs.theorems.a_delivery_has_one_consumer.Goals as goal

pub returns : goal.returns
returns c = (stays_with_consumer, never_comes_back, of_messages)
