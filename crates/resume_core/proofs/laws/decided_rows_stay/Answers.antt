use Rattle.resume_core.proofs.Plans as plans
use Rattle.resume_core.proofs.laws.decided_rows_stay.Goals as goal

pub returns : goal.returns
returns c = record { undecided = plans.stays_undecided; same = plans.stays_same }
