use Rattle.std.proofs.Common.{◌≡◌, drop}
use Rattle.book_model.specs.Book.{BookView}
use Rattle.book_model.specs.Restoring.{first_unread, book_read}
use Rattle.book_core.specs.Tables.{Shows}
use Rattle.book_core.proofs.tables.Tables.read_all.Given as goal

abbrev pub invariant-loop-act : goal.invariant-loop-act
invariant-loop-act l = (b : BookView) → Shows l.fn.self b → (m : BookView) × Shows l.self m
    × (first_unread l.next_terminus.0 l.next_row.0 m (drop l.act-index l.acts)
    ≡ first_unread l.next_terminus.0 l.next_row.0 b l.acts)
    × (book_read m (drop l.act-index l.acts) ≡ book_read b l.acts)
