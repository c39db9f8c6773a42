-- Batches that are held, to be written together behind those that two files hold.
use Rattle.std.specs.Prelude.{◌≡◌, ℕ, ◌+◌, List, [], ◌∷◌, ◌++◌, length}
use Rattle.disk_core.specs.Twin.{Contents}
use Rattle.book_model.specs.declared.act.Act.{Act}
use Rattle.book_model.specs.Book.{BookView}
use Rattle.journal_codec.specs.Batches.{AllApply, book_after}
use Rattle.journal_codec.specs.Format.{blocks}
use Rattle.twin_journal.specs.declared.figures.Figures.{Figures}
use Rattle.twin_journal.specs.declared.held.Held.{Held}
use Rattle.twin_journal.specs.Figures.{IsAt}

-- These are held behind what has these figures: from the gate on that ends the files, there is an open gate before each, and a closed one after the last.
pub record IsHeld (figures : Figures) (held : Held) (lists : List (List Act)) : Type 0 where
  pub bytes : held.bytes.items ≡ blocks lists ++ 0 ∷ []
  pub ahead : held.ahead ≡ record figures { place = figures.place + length (blocks lists); last = figures.last + length lists }

-- how many bytes batches have that are held: an open gate before each, the length of its acts, and these
abbrev pub held_bytes : List (List Act) → ℕ
held_bytes held = length (blocks held)

-- what stands behind the first gate: batches with open gates between them, and a closed gate
pub record IsFillOf (lists : List (List Act)) (fill : List ℕ) : Type 0 where
  pub batches : List ℕ
  pub is : fill ≡ batches ++ 0 ∷ []
  pub are : blocks lists ≡ 1 ∷ batches

-- The files hold batches above a book, a crash leaves just these, and others that apply after them are held.
pub record IsAhead (figures : Figures) (held : Held) (seen : Contents) (may_leave : Contents → Type 0) (stamp : List ℕ) (start : BookView) (bs lists : List (List Act)) : Type 0 where
  pub at : IsAt figures seen may_leave stamp start bs
  pub are_held : IsHeld figures held lists
  pub apply : AllApply (book_after start bs) lists
