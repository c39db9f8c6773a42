use Rattle.std.proofs.Common.{◌≡◌, ◌||◌, ℕ, drop}
use Rattle.std.specs.Prelude.{◌==◌, ◌&&◌}
use Rattle.std.specs.List.{list_any}
use Rattle.amqp_session.specs.Ranges.{has}
use Rattle.router_trace.specs.Deliveries.{is_number}
use Rattle.state_deliveries.specs.Rowing.{in_rows}
use Rattle.state_deliveries.proofs.handles.Handles.append_link.Given as goal

-- the numbers so far, and those of the remaining ones that have the handle
abbrev pub invariant-loop-number : goal.invariant-loop-number
invariant-loop-number l = (n : ℕ) → (has n l.numbers.items || list_any (λ m. (n == m) && is_number (in_rows l.self.rows l.conn l.own m) l.handle) (drop l.number-index l.number-items))
    ≡ (has n l.fn.numbers.items || list_any (λ m. (n == m) && is_number (in_rows l.self.rows l.conn l.own m) l.handle) l.number-items)
