use Rattle.std.proofs.Common.{◌≡◌}
use Rattle.case_library.proofs.batches.append_batches.Given as goal

abbrev pub invariant-loop-batch : goal.invariant-loop-batch
invariant-loop-batch g l = l.book ≡ l.trial
