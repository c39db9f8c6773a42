use Rattle.std.proofs.Common.{◌≡◌, ◌||◌, ℕ, true, drop}
use Rattle.std.specs.Ordering.{nat_cmp}
use Rattle.std.specs.BTreeSet.{contains}
use Rattle.state_deliveries.specs.Indexing.{Keys}
use Rattle.state_deliveries.specs.Deciding.{decide}
use Rattle.state_deliveries.specs.Indexing.{Indexes}
use Rattle.state_deliveries.proofs.index.Index.deciding_by.Given as goal

-- a number that may be decided is there, or one of the remaining changes may decide it
abbrev pub invariant-loop-change : goal.invariant-loop-change
invariant-loop-change l = (known : ℕ → Keys) → Indexes l.self known → (n : ℕ) → decide l.changes (known n) ≡ true
    → (contains nat_cmp l.numbers n || decide (drop l.change-index l.changes) (known n)) ≡ true
