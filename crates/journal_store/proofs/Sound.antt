-- Sound books: two files open to one, and the numbers of one rise.
use Rattle.disk_core.specs.Twin.{Contents}
use Rattle.book_model.specs.Book.{BookView}
use Rattle.book_model.specs.Sound.{IsSound}
use Rattle.gate_journal.specs.Ordered.{IsOrdered}
use Rattle.twin_journal.proofs.Ordered as ordered
use Rattle.twin_journal.proofs.Unique as unique
use Rattle.journal_store.specs.Store.{OpensTo}

-- the book to which two files open
pub opened_sound : (contents : Contents) (b : BookView) → OpensTo contents b → IsSound b
opened_sound = unique.opened_sound

pub sound_is_ordered : (b : BookView) → IsSound b → IsOrdered b
sound_is_ordered = ordered.sound_is_ordered
