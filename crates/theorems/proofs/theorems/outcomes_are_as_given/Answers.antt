use Rattle.theorems.proofs.Outcomes.{outcomes_given, outcomes_of_consumers}
use Rattle.theorems.proofs.theorems.outcomes_are_as_given.Goals as goal

pub returns : goal.returns
returns c = (outcomes_given, outcomes_of_consumers)
