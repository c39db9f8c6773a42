-- What an opened file stands for, and why a file can't be opened.
use Rattle.std.specs.Prelude.{◌≡◌, ◌≢◌, ◌⊎◌, ℕ, ◌<◌, List, ◌∷◌, ◌++◌, length, take, None}
use Rattle.book_model.specs.declared.act.Act.{Act}
use Rattle.book_model.specs.Book.{BookView, empty_book, first_fault}
use Rattle.gate_journal.specs.declared.fault.OpenFault.{OpenFault}
use Rattle.gate_journal.specs.declared.fault.OpenFault.TheVariants.{NotAJournal, Damaged, Disk, Memory}
use Rattle.journal_codec.specs.Format.{magic, batch, front_from}
use Rattle.journal_codec.specs.Batches.{IsBatch, AllApply, HoldsFrom, book_after}

-- the bytes begin with a batch that applies to this book, and a gate after it
pub record Begins (b : BookView) (bytes : List ℕ) (acts : List Act) : Type 0 where
  pub gate : ℕ
  pub rest : List ℕ
  pub is : bytes ≡ batch acts ++ gate ∷ rest
  pub is_batch : IsBatch acts
  pub applies : first_fault b acts ≡ None

-- they don't
abbrev pub NoBatch : BookView → List ℕ → Type 0
NoBatch b bytes = (acts : List Act) → Begins b bytes acts → ⊥

-- In a file with this head, after good batches above this book, there is an open gate at this place, and no batch after it.
pub record IsDamagedFrom (head : List ℕ) (start : BookView) (file : List ℕ) (place : ℕ) : Type 0 where
  pub batches : List (List Act)
  pub rest : List ℕ
  pub is : file ≡ front_from head batches ++ 1 ∷ rest
  pub valid : AllApply start batches
  pub is_place : place ≡ length (front_from head batches)
  pub no_batch : NoBatch (book_after start batches) rest

-- A journal is damaged so.
abbrev pub IsDamagedAt : List ℕ → ℕ → Type 0
IsDamagedAt file place = IsDamagedFrom magic empty_book file place

-- why opening a file answers a fault
abbrev pub Explains : List ℕ → OpenFault → Type 0
Explains file NotAJournal = (length file < 9) ⊎ (take 8 file ≢ magic)
Explains file (Damaged place) = IsDamagedAt file place
Explains file Disk = Unit {0}
Explains file Memory = Unit {0}

-- What was found in a file with this head, above this book: its batches, the book after them, the place of the gate that ends
-- them, and their number.
pub record IsFoundFrom (head : List ℕ) (start : BookView) (file : List ℕ) (book : BookView) (place count : ℕ) : Type 0 where
  pub batches : List (List Act)
  pub holds : HoldsFrom head start file batches
  pub book_is : book ≡ book_after start batches
  pub is_place : place ≡ length (front_from head batches)
  pub count_is : count ≡ length batches

-- what was found in a journal
abbrev pub IsFound : List ℕ → BookView → ℕ → ℕ → Type 0
IsFound file book place count = IsFoundFrom magic empty_book file book place count
