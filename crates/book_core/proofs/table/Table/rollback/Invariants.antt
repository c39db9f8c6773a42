use Rattle.std.proofs.Common.{◌≡◌, vec_len}
use Rattle.book_core.specs.Table.{before}
use Rattle.book_core.proofs.table.Table.rollback.Given as goal

abbrev pub invariant-loop-change : goal.invariant-loop-change
invariant-loop-change g l = before l.self.log.items l.self.slots.items ≡ before l.fn.self.log.items l.fn.self.slots.items

abbrev pub decreases-loop-change : goal.decreases-loop-change
decreases-loop-change g l = vec_len l.self.log
