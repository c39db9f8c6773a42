use Rattle.std.proofs.Common.{◌≡◌, ◌++◌, ℕ}
use Rattle.std.specs.List.{flat_map}
use Rattle.amqp_model.specs.declared.state.DeliveryState.{DeliveryState}
use Rattle.book_model.specs.Book.{row_at}
use Rattle.journal_store.specs.Settling.{found_decision}
use Rattle.journal_store.proofs.settling.Settling.add_decisions.Given as goal

-- those found so far, and those of the rest
abbrev pub invariant-loop-number : goal.invariant-loop-number
invariant-loop-number l =
    l.acts.items ++ flat_map (λ (e : ℕ × DeliveryState). found_decision e.1 (row_at e.0 l.book.rows)) l.number-iterator
    ≡ l.fn.acts.items ++ flat_map (λ (e : ℕ × DeliveryState). found_decision e.1 (row_at e.0 l.book.rows)) l.self.outcomes.entries
