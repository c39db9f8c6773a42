use Rattle.std.proofs.Common.{◌≡◌, ℕ, vec_len}
use Rattle.std.specs.BTreeMap.{get}
use Rattle.std.specs.Option.{option_or}
use Rattle.std.specs.Ordering.{nat_cmp}
use Rattle.journal_store.specs.Acting.{outcome_for}
use Rattle.journal_store.proofs.settling.outcomes_of.Given as goal

-- what is left goes before what is gathered
abbrev pub invariant-loop-decision : goal.invariant-loop-decision
invariant-loop-decision l = (n : ℕ) → option_or (outcome_for n l.decided.items) (get nat_cmp l.outcomes n) ≡ outcome_for n l.fn.decided.items

abbrev pub decreases-loop-decision : goal.decreases-loop-decision
decreases-loop-decision l = vec_len l.decided
