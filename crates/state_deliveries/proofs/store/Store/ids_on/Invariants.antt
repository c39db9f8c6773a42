use Rattle.std.proofs.Common.{◌≡◌, ◌||◌, ℕ, drop}
use Rattle.state_deliveries.proofs.Detached.{any_id}
use Rattle.amqp_session.specs.Ranges.{has}
use Rattle.state_deliveries.proofs.store.Store.ids_on.Given as goal

-- the ids found so far, and those of the remaining numbers
abbrev pub invariant-loop-number : goal.invariant-loop-number
invariant-loop-number l = (id : ℕ) → (has id l.ids.items || any_id l.self id (drop l.number-index l.number-items)) ≡ any_id l.self id l.number-items
