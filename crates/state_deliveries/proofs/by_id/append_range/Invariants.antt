use Rattle.std.proofs.Common.{◌≡◌, ◌||◌, ℕ, drop}
use Rattle.std.specs.List.{list_any}
use Rattle.amqp_session.specs.Ranges.{has}
use Rattle.state_collections.specs.NumberMap.{at_number}
use Rattle.router_trace.specs.Deliveries.{is_number}
use Rattle.state_deliveries.proofs.by_id.append_range.Given as goal

-- the numbers so far, and those at the remaining ids
abbrev pub invariant-loop-id : goal.invariant-loop-id
invariant-loop-id l = (n : ℕ) → (has n l.numbers.items || list_any (λ id. is_number (at_number l.row id) n) (drop l.id-index l.id-items))
    ≡ (has n l.fn.numbers.items || list_any (λ id. is_number (at_number l.row id) n) l.id-items)
