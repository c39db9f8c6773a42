-- The delivery store: a book, and the journal that keeps it on two files.
use Rattle.std.specs.Prelude.{◌≡◌, ℕ, ◌+◌, if◌then◌else◌, List, [], ◌∷◌}
use Rattle.disk_core.specs.Twin.{Contents}
use Rattle.book_model.specs.declared.act.Act.{Act}
use Rattle.book_model.specs.Book.{BookView, effects}
use Rattle.gate_journal.specs.Reserve.{reserve}
use Rattle.twin_journal.specs.declared.journal.Journal.{Journal}
use Rattle.twin_journal.specs.Journal.{HoldsBook, KeepsBook, SuitsBook, batch_count, base_of as journal_base, is_due_in}
use Rattle.journal_store.specs.declared.store.Store.{Store}
-- when two files open to a book, what can be written, and what is too much
pub use Rattle.twin_journal.specs.Holding.{OpensTo}
pub use Rattle.journal_store.specs.Writable.{Writable}
pub use Rattle.journal_store.specs.Exceeding.{exceeds}

-- its journal, the two files of that, and its book
abbrev pub journal_of : {T : Type 0} → Store T → Journal T
journal_of s = s.journal

abbrev pub twin_of : {T : Type 0} → Store T → T
twin_of s = s.journal.twin

abbrev pub book_of : {T : Type 0} → Store T → BookView
book_of s = s.kept.book

-- the number of its last batch, and that of the last one in its checkpoint
abbrev pub count_of : {T : Type 0} → Store T → ℕ
count_of s = batch_count (journal_of s)

abbrev pub base_of : {T : Type 0} → Store T → ℕ
base_of s = journal_base (journal_of s)

-- the number of the last batch after these acts: where there are none, nothing is written
abbrev pub batches_after : ℕ → List Act → ℕ
batches_after count [] = count
batches_after count (act ∷ acts) = count + 1

-- The base after these acts: where a checkpoint is due before their batch, it is the last batch before that.
abbrev pub base_after : {T : Type 0} → Store T → List Act → ℕ
base_after s [] = base_of s
base_after s (act ∷ acts) =
    if is_due_in (journal_of s) (act ∷ acts) (reserve (effects (book_of s) (act ∷ acts))) then count_of s else base_of s

-- Its journal knows what its book needs: it keeps that free, and counts on no smaller checkpoint.
abbrev pub IsSuited : {T : Type 0} → Store T → Type 0
IsSuited s = SuitsBook (journal_of s) (book_of s)

-- the journal has the batches that it had, behind the same checkpoint, and is suited if it was
abbrev pub IsAsBefore : {T : Type 0} → Store T → Store T → Type 0
IsAsBefore old new = (count_of new ≡ count_of old) × (base_of new ≡ base_of old) × (IsSuited old → IsSuited new)

-- The two files of a store keep its book: they hold batches that leave this book, and a crash leaves just that.
abbrev pub Stands : {T : Type 0} → (T → Contents) → (T → Contents → Type 0) → Store T → Type 0
Stands seen may_leave s = KeepsBook seen may_leave s.journal s.kept.book

-- Its two files keep one book, a crash leaves just that, and the batches that are held lead from there to its own book.
abbrev pub StandsBehind : {T : Type 0} → (T → Contents) → (T → Contents → Type 0) → Store T → BookView → Type 0
StandsBehind seen may_leave s kept = HoldsBook seen may_leave s.journal kept s.kept.book
