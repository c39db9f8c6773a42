use Rattle.resume_core.proofs.Plans as plans
use Rattle.resume_core.proofs.laws.rows_are_of_the_terminus.Goals as goal

pub returns : goal.returns
returns c = record { kept = plans.kept_rows; decided = plans.decisions_rows; listed = plans.listed_rows; sent = plans.sendings_rows }
