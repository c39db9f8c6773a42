use Rattle.std.proofs.Common.{◌∙◌, ap}
use Rattle.std.specs.List.{list_any}
use Rattle.book_core.specs.Rows.{rows_left}
use Rattle.journal_store.specs.Settling.{keeps_after}
use Rattle.journal_store.proofs.Released.{any_of_terminus}
use Rattle.journal_store.proofs.settling.Settling.lets_go.Goals as goal

pub loop-row-init : goal.loop-row-init
loop-row-init c ds numbers names =
    let role = c.in-Some.terminus.now.key.role in
    let number = c.in-Some.terminus.now.number.0 in
    ap (list_any (keeps_after ds numbers role number)) (ap rows_left c.into_iter-row-iterator.ensures.into_iter_gives ∙ c.rows_of-row-items.ensures)
    ∙ any_of_terminus ds numbers role number c.args.book.now.rows
