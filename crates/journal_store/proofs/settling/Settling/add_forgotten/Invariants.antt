use Rattle.std.proofs.Common.{◌≡◌, ◌++◌, ℕ}
use Rattle.std.specs.List.{flat_map}
use Rattle.book_model.specs.Book.{row_at}
use Rattle.journal_store.specs.Settling.{found_forgotten}
use Rattle.journal_store.proofs.settling.Settling.add_forgotten.Given as goal

-- those found so far, and those of the rest
abbrev pub invariant-loop-number : goal.invariant-loop-number
invariant-loop-number l =
    l.acts.items ++ flat_map (λ (k : ℕ). found_forgotten (row_at k l.book.rows)) l.number-iterator
    ≡ l.fn.acts.items ++ flat_map (λ (k : ℕ). found_forgotten (row_at k l.book.rows)) l.self.forgotten.keys
