use Rattle.std.proofs.Common.{◌≡◌, ◌||◌, ◌<◌, ◌^◌, ℕ, drop}
use Rattle.std.specs.Option.{is_some}
use Rattle.std.specs.Ordering.{nat_cmp}
use Rattle.std.specs.BTreeMap.{get}
use Rattle.amqp_session.specs.Ranges.{has}
use Rattle.state_collections.proofs.by_session.ordered.Given as goal

-- the ids added so far, and the remaining numbers
abbrev pub invariant-loop-number : goal.invariant-loop-number
invariant-loop-number g l = (q : ℕ) → q < 2 ^ 32 → (is_some (get nat_cmp l.there.deliveries q) || has q (drop l.number-index l.number-items)) ≡ has q l.number-items
