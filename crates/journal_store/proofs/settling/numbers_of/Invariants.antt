use Rattle.std.proofs.Common.{◌≡◌, ◌||◌, ℕ, vec_len}
use Rattle.std.specs.BTreeSet.{contains}
use Rattle.std.specs.Ordering.{nat_cmp}
use Rattle.journal_store.specs.Acting.{is_among}
use Rattle.journal_store.proofs.settling.numbers_of.Given as goal

-- what is left, and what is gathered
abbrev pub invariant-loop-row : goal.invariant-loop-row
invariant-loop-row l = (n : ℕ) → (is_among n l.rows.items || contains nat_cmp l.numbers n) ≡ is_among n l.fn.rows.items

abbrev pub decreases-loop-row : goal.decreases-loop-row
decreases-loop-row l = vec_len l.rows
