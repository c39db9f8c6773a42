use Rattle.std.proofs.Common.{length}
use Rattle.case_library.proofs.batches.+have_outcomes.Given as goal

abbrev pub decreases-have_outcomes : goal.decreases-have_outcomes
decreases-have_outcomes l = length l.acts.now
