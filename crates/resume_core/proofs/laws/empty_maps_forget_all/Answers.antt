use Rattle.resume_core.proofs.Plans as plans
use Rattle.resume_core.proofs.laws.empty_maps_forget_all.Goals as goal

pub returns : goal.returns
returns c = record { forgotten = plans.empty_forgets; mapped = plans.empty_keeps }
