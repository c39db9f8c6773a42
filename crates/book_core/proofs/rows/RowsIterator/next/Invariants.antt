use Rattle.std.proofs.Common.{◌≡◌, length}
use Rattle.book_core.specs.Rows.{rows_left}
use Rattle.book_core.proofs.rows.RowsIterator.next.Given as goal

abbrev pub invariant-loop-first : goal.invariant-loop-first
invariant-loop-first l = rows_left l.self ≡ rows_left l.fn.self

abbrev pub decreases-loop-first : goal.decreases-loop-first
decreases-loop-first l = length l.self.slots.now
