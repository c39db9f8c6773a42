use Rattle.resume_core.proofs.Plans as plans
use Rattle.resume_core.proofs.laws.complete_maps_send_what_is_listed.Goals as goal

pub returns : goal.returns
returns c = plans.complete_sends
