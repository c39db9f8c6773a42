use Rattle.std.proofs.Common.{◌≡◌, ◌||◌, ℕ, drop}
use Rattle.std.specs.Ordering.{nat_cmp}
use Rattle.std.specs.BTreeSet.{contains}
use Rattle.amqp_session.specs.Ranges.{has}
use Rattle.state_deliveries.proofs.index.add_all.Given as goal

-- the numbers so far, and those still to come
abbrev pub invariant-loop-number : goal.invariant-loop-number
invariant-loop-number l = (n : ℕ) → (contains nat_cmp l.numbers n || has n (drop l.number-index l.more)) ≡ (contains nat_cmp l.fn.numbers n || has n l.more)
