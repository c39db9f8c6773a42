use Rattle.resume_core.proofs.Plans as plans
use Rattle.resume_core.proofs.laws.complete_maps_agree.Goals as goal

pub returns : goal.returns
returns c = plans.complete_agrees
