-- What two files open to that keep a store's book.
use Rattle.std.proofs.Common.{◌≡◌}
use Rattle.disk_core.specs.Twin.{Contents}
use Rattle.book_model.specs.Book.{BookView}
use Rattle.twin_journal.specs.declared.journal.Journal.{Journal}
use Rattle.twin_journal.specs.Journal.{KeepsBook}
use Rattle.twin_journal.proofs.Unique.{same_book}
use Rattle.journal_store.specs.Store.{OpensTo}

-- they open to it
pub kept_opens : {T : Type 0} (seen : T → Contents) (may_leave : T → Contents → Type 0) (j : Journal T) (b : BookView) → KeepsBook seen may_leave j b → OpensTo (seen j.twin) b
kept_opens seen may_leave j b k = record {
  base = j.figures.base;
  start = k.start;
  batches = k.batches;
  holds = record { side = j.figures.side; epoch = j.figures.epoch; size = j.figures.size; stamp = k.keeps.stamp; on = k.keeps.at.fits.on };
  leaves = k.leaves;
}

-- two files open to one book
pub opens_to_one : (contents : Contents) (first second : BookView) → OpensTo contents first → OpensTo contents second → first ≡ second
opens_to_one = same_book
