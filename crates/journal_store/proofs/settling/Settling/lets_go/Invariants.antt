use Rattle.std.proofs.Common.{◌≡◌, List}
use Rattle.std.specs.List.{list_any}
use Rattle.book_model.specs.declared.act.Decision.{Decision}
use Rattle.book_model.specs.declared.row.RowNumber.{RowNumber}
use Rattle.book_core.specs.Rows.{rows_left}
use Rattle.journal_store.specs.Settling.{Names, keeps_after}
use Rattle.journal_store.proofs.settling.Settling.lets_go.Given as goal

-- none of those that came keeps the terminus
abbrev pub invariant-loop-row : goal.invariant-loop-row
invariant-loop-row l = (ds : List Decision) (numbers : List RowNumber) → Names l.self ds numbers
    → list_any (keeps_after ds numbers l.terminus.key.role l.terminus.number.0) (rows_left l.row-iterator)
    ≡ list_any (keeps_after ds numbers l.terminus.key.role l.terminus.number.0) l.book.rows
