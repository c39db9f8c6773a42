-- How a journal relates to its disk.
use Rattle.std.specs.Prelude.{◌≡◌, ℕ, List, length}
use Rattle.disk_core.specs.Disk.{Only}
use Rattle.book_model.specs.declared.act.Act.{Act}
use Rattle.book_model.specs.Book.{BookView, empty_book}
use Rattle.journal_codec.specs.Format.{magic, front_from}
use Rattle.journal_codec.specs.Batches.{HoldsFrom}

-- The disk has a file with this head, which holds these batches above this book; the gate that ends them is at this place, and a
-- crash leaves just that.
pub record IsAtFrom (head : List ℕ) (start : BookView) (seen : List ℕ) (may_leave : List ℕ → Type 0) (place : ℕ) (bs : List (List Act)) : Type 0 where
  pub file : HoldsFrom head start seen bs
  pub is_place : place ≡ length (front_from head bs)
  pub durable : Only seen may_leave

-- the disk has a journal of these batches
abbrev pub IsAt : List ℕ → (List ℕ → Type 0) → ℕ → List (List Act) → Type 0
IsAt seen may_leave place bs = IsAtFrom magic empty_book seen may_leave place bs
