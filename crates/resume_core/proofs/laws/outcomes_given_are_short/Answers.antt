use Rattle.resume_core.proofs.Plans as plans
use Rattle.resume_core.proofs.laws.outcomes_given_are_short.Goals as goal

pub returns : goal.returns
returns c = plans.decisions_short
