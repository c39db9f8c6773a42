use Rattle.std.proofs.Common.{◌≡◌}
use Rattle.book_core.specs.Numbers.{number_at}
use Rattle.book_core.proofs.numbers.Numbers.commit.Given as goal

abbrev pub invariant-loop-change : goal.invariant-loop-change
invariant-loop-change g l = (q : _) → number_at g.K.Ord.cmp l.self q ≡ number_at g.K.Ord.cmp l.fn.self q

abbrev pub decreases-loop-change : goal.decreases-loop-change
decreases-loop-change g l = goal.left-loop-change g l
