use Rattle.std.proofs.Common.{◌≡◌}
use Rattle.case_library.proofs.batches.apply_entries.Given as goal

abbrev pub invariant-loop-entry : goal.invariant-loop-entry
invariant-loop-entry l = l.book ≡ l.trial
