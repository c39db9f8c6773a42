use Rattle.resume_core.proofs.Plans as plans
use Rattle.resume_core.proofs.laws.incomplete_maps_forget_nothing.Goals as goal

pub returns : goal.returns
returns c = record { forgotten = plans.incomplete_forgets; mapped = plans.incomplete_keeps }
