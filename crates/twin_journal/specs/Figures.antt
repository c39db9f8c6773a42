-- The figures of a journal, and what they say of its two files.
use Rattle.std.specs.Prelude.{◌≡◌, ◌≢◌, ℕ, ◌+◌, Bool, true, false, List, [], ◌∷◌, ◌++◌, length}
use Rattle.disk_core.specs.Disk.{Only}
use Rattle.disk_core.specs.Twin.{other, Contents}
use Rattle.book_model.specs.declared.act.Act.{Act}
use Rattle.book_model.specs.Book.{BookView}
use Rattle.journal_codec.specs.Batches.{book_after}
use Rattle.journal_codec.specs.Format.{front_from}
use Rattle.twin_journal.specs.declared.figures.Figures.{Figures}
use Rattle.twin_journal.specs.Checkpoints.{IsStamp}
use Rattle.twin_journal.specs.Format.{magic}
use Rattle.twin_journal.specs.Holding.{HoldsOn}
use Rattle.twin_journal.specs.Sides.{IsShut, IsOlder}

-- an idle side, by whether its gate is open
abbrev pub IsIdleAs : Bool → ℕ → List ℕ → Type 0
IsIdleAs true epoch file = IsOlder epoch file
IsIdleAs false epoch file = IsShut file

-- The figures are those of two files, which hold these batches above this book.
pub record Fits (figures : Figures) (contents : Contents) (stamp : List ℕ) (start : BookView) (bs : List (List Act)) : Type 0 where
  pub on : HoldsOn figures.side contents figures.epoch figures.base figures.size stamp start bs
  pub idle : IsIdleAs figures.idle_open figures.epoch (contents (other figures.side))
  pub is_place : figures.place ≡ length (front_from (magic ++ 1 ∷ stamp) bs)
  pub last : figures.last ≡ figures.base + length bs

-- They fit what a read gives, and a crash leaves just that.
pub record IsAt (figures : Figures) (seen : Contents) (may_leave : Contents → Type 0) (stamp : List ℕ) (start : BookView) (bs : List (List Act)) : Type 0 where
  pub fits : Fits figures seen stamp start bs
  pub durable : Only seen may_leave

-- They fit it, and there are no batches behind a checkpoint of this book.
pub record StartsAt (figures : Figures) (seen : Contents) (may_leave : Contents → Type 0) (book : BookView) : Type 0 where
  pub stamp : List ℕ
  pub at : IsAt figures seen may_leave stamp book []

-- They were found in two files, with the book that the batches leave.
pub record IsFound (figures : Figures) (contents : Contents) (book : BookView) : Type 0 where
  pub stamp : List ℕ
  pub start : BookView
  pub batches : List (List Act)
  pub fits : Fits figures contents stamp start batches
  pub book_is : book ≡ book_after start batches

-- a side with these bytes behind its gate, which isn't open
pub record IsFilled (fill file : List ℕ) : Type 0 where
  pub gate : ℕ
  pub shut : gate ≢ 1
  pub is : file ≡ magic ++ gate ∷ fill

-- The figures once the idle side is the active one, with a checkpoint of this book, and no batches yet.
pub record IsRenewed (figures next : Figures) (stamp : List ℕ) (book : BookView) : Type 0 where
  pub side : next.side ≡ other figures.side
  pub epoch : next.epoch ≡ figures.epoch + 1
  pub base : next.base ≡ figures.last
  pub is_stamp : IsStamp stamp next.epoch next.base next.size book
  pub is_place : next.place ≡ 9 + length stamp
  pub last : next.last ≡ figures.last
  pub idle : next.idle_open ≡ true
