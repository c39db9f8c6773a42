use Rattle.std.proofs.Common.{◌≡◌}
use Rattle.std.specs.BTreeMap.{get}
use Rattle.book_core.specs.Numbers.{earlier}
use Rattle.book_core.proofs.numbers.Numbers.rollback.Given as goal

abbrev pub invariant-loop-change : goal.invariant-loop-change
invariant-loop-change g l = earlier g.K.Ord.cmp l.self.log.items (get g.K.Ord.cmp l.self.numbers) ≡ earlier g.K.Ord.cmp l.fn.self.log.items (get g.K.Ord.cmp l.fn.self.numbers)

abbrev pub decreases-loop-change : goal.decreases-loop-change
decreases-loop-change g l = goal.left-loop-change g l
