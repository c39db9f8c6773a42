use Rattle.std.proofs.Common.{◌≡◌, ◌||◌, ℕ}
use Rattle.std.specs.List.{list_any}
use Rattle.std.specs.Prelude.{is_some}
use Rattle.amqp_session.specs.Ranges.{has}
use Rattle.state_collections.specs.NumberMap.{at_number}
use Rattle.state_deliveries.specs.Rowing.{is_in_any}
use Rattle.state_deliveries.proofs.rows.append_all.Given as goal

-- the numbers of the remaining sessions will be appended
abbrev pub invariant-loop-own : goal.invariant-loop-own
invariant-loop-own g l = (n : ℕ) → (list_any (λ e. is_some (at_number e.1 n)) l._own-iterator || has n l.numbers.items) ≡ (is_in_any n l.sessions || has n l.fn.numbers.items)
