-- A journal as its callers see it.
use Rattle.std.specs.Prelude.{◌≡◌, ℕ, Bool, List, [], ◌∷◌, ◌++◌}
use Rattle.disk_core.specs.Twin.{Contents}
use Rattle.book_model.specs.declared.act.Act.{Act}
use Rattle.book_model.specs.Book.{BookView}
use Rattle.journal_codec.specs.Batches.{book_after}
use Rattle.twin_journal.specs.declared.journal.Journal.{Journal}
use Rattle.twin_journal.specs.Figures.{IsAt}
use Rattle.twin_journal.specs.Held.{IsAhead}
use Rattle.twin_journal.specs.Room.{Suits, is_due}

-- its two files
abbrev pub twin_of : {T : Type 0} → Journal T → T
twin_of j = j.twin

-- the number of the last batch in its checkpoint
abbrev pub base_of : {T : Type 0} → Journal T → ℕ
base_of j = j.figures.base

-- the number of its last batch, of which the last ones may be held; and that of the last one on its files
abbrev pub batch_count : {T : Type 0} → Journal T → ℕ
batch_count j = j.held.ahead.last

abbrev pub written_count : {T : Type 0} → Journal T → ℕ
written_count j = j.figures.last

-- a call of it has failed
abbrev pub has_failed : {T : Type 0} → Journal T → Bool
has_failed j = j.failed

-- It knows what this book needs: it keeps that free, and counts on no smaller checkpoint. So it was opened, or acts
-- were appended.
abbrev pub SuitsBook : {T : Type 0} → Journal T → BookView → Type 0
SuitsBook j b = Suits j.needs b

-- whether a checkpoint is due before a batch of these acts, after which the book needs this reserve
abbrev pub is_due_in : {T : Type 0} → Journal T → List Act → ℕ → Bool
is_due_in j acts reserve_after = is_due j.held.ahead acts reserve_after

-- The two files hold these batches after a base, above this book, and a crash leaves nothing else; these are held behind them; and the figures are theirs.
pub record Holds {T : Type 0} (seen : T → Contents) (may_leave : T → Contents → Type 0) (j : Journal T) (base : ℕ) (start : BookView) (bs held : List (List Act)) : Type 0 where
  pub stamp : List ℕ
  pub ahead : IsAhead j.figures j.held (seen j.twin) (may_leave j.twin) stamp start bs held
  pub base_is : j.figures.base ≡ base
  pub suits : Suits j.needs (book_after start (bs ++ held))

-- The files hold batches that leave one book, and with those that are held they leave another one.
pub record HoldsBook {T : Type 0} (seen : T → Contents) (may_leave : T → Contents → Type 0) (j : Journal T) (kept book : BookView) : Type 0 where
  pub base : ℕ
  pub start : BookView
  pub batches : List (List Act)
  pub held : List (List Act)
  pub holds : Holds seen may_leave j base start batches held
  pub kept_is : kept ≡ book_after start batches
  pub leaves : book ≡ book_after start (batches ++ held)

-- The two files hold these batches after a base, above this book, a crash leaves nothing else, nothing is held, and the
-- figures are theirs.
pub record Keeps {T : Type 0} (seen : T → Contents) (may_leave : T → Contents → Type 0) (j : Journal T) (base : ℕ) (start : BookView) (bs : List (List Act)) : Type 0 where
  pub stamp : List ℕ
  pub at : IsAt j.figures (seen j.twin) (may_leave j.twin) stamp start bs
  pub none_held : j.held.bytes.items ≡ 0 ∷ []
  pub level : j.held.ahead ≡ j.figures
  pub base_is : j.figures.base ≡ base
  pub suits : Suits j.needs (book_after start bs)

-- They hold batches that leave this book.
pub record KeepsBook {T : Type 0} (seen : T → Contents) (may_leave : T → Contents → Type 0) (j : Journal T) (book : BookView) : Type 0 where
  pub base : ℕ
  pub start : BookView
  pub batches : List (List Act)
  pub keeps : Keeps seen may_leave j base start batches
  pub leaves : book ≡ book_after start batches
