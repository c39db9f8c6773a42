use Rattle.std.proofs.Common.{◌≡◌, ◌++◌}
use Rattle.std.specs.Prelude.{filter, map}
use Rattle.book_core.specs.Rows.{rows_left}
use Rattle.journal_store.specs.Lost.{is_lost, failure_of, start_acts}
use Rattle.journal_store.proofs.lost.start_acts.Given as goal

-- those found so far, and those of the rest
abbrev pub invariant-loop-row : goal.invariant-loop-row
invariant-loop-row l = l.acts.items ++ map failure_of (filter is_lost (rows_left l.row-iterator)) ≡ start_acts l.book
