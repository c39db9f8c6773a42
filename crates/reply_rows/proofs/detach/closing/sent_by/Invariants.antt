use Rattle.std.proofs.Common.{◌≡◌, ◌++◌}
use Rattle.std.specs.Prelude.{filter, map}
use Rattle.book_model.specs.Book.{is_from}
use Rattle.book_core.specs.Rows.{rows_left}
use Rattle.reply_rows.proofs.detach.closing.sent_by.Given as goal

-- those found so far, then those of the rest, are all
abbrev pub invariant-loop-row : goal.invariant-loop-row
invariant-loop-row l = l.numbers.items ++ map (λ r. r.number) (filter (is_from l.number.0) (rows_left l.row-iterator)) ≡ map (λ r. r.number) (filter (is_from l.number.0) l.book.rows)
