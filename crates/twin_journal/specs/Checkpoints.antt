-- What a head and a checkpoint are.
use Rattle.std.specs.Prelude.{◌≡◌, ℕ, ◌<◌, ◌≤◌, ◌^◌, List, ◌∷◌, ◌++◌, length, None}
use Rattle.book_model.specs.declared.act.Act.{Act}
use Rattle.book_model.specs.Book.{BookView}
use Rattle.book_model.specs.Restoring.{restore_fault, restored}
use Rattle.journal_codec.specs.Batches.{AreWritable}
use Rattle.twin_journal.specs.Format.{largest, checkpoint_bytes, stamp_bytes}

-- A checkpoint: acts from which a book is read back, with the numbers that come next in it.
pub record IsCheckpoint (bytes : List ℕ) (book : BookView) : Type 0 where
  pub next_terminus : ℕ
  pub next_row : ℕ
  pub acts : List Act
  pub is : bytes ≡ checkpoint_bytes next_terminus next_row acts
  pub terminus_fits : next_terminus ≤ largest
  pub row_fits : next_row ≤ largest
  pub writable : AreWritable acts
  pub reads : restore_fault next_terminus next_row acts ≡ None
  pub book_is : book ≡ restored next_terminus next_row acts

-- What an open gate is followed by on a side that can be active: the epoch and the base, and a checkpoint of this book.
pub record IsStamp (stamp : List ℕ) (epoch base size : ℕ) (book : BookView) : Type 0 where
  pub checkpoint : List ℕ
  pub is : stamp ≡ stamp_bytes epoch base checkpoint
  pub epoch_fits : epoch ≤ largest
  pub base_fits : base ≤ largest
  pub short : length checkpoint < 2 ^ 32
  pub size_is : size ≡ length checkpoint
  pub is_checkpoint : IsCheckpoint checkpoint book

-- the bytes behind an open gate don't begin with epoch, base and checkpoint, and a gate behind them
abbrev pub NoStamp : List ℕ → Type 0
NoStamp inside =
    (epoch base size : ℕ) (stamp : List ℕ) (book : BookView) (gate : ℕ) (rest : List ℕ) → IsStamp stamp epoch base size book → inside ≡ stamp ++ gate ∷ rest → ⊥
