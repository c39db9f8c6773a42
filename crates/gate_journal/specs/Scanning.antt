-- What a scan of a file finds on the way.
use Rattle.std.specs.Prelude.{◌≡◌, ◌≢◌, ℕ, List, [], ◌++◌, length}
use Rattle.book_model.specs.declared.act.Act.{Act}
use Rattle.book_model.specs.declared.fault.BookFault.{BookFault}
use Rattle.book_model.specs.declared.fault.BookFault.TheVariants as books
use Rattle.gate_journal.specs.declared.fault.OpenFault.{OpenFault}
use Rattle.gate_journal.specs.declared.fault.OpenFault.TheVariants as opening
use Rattle.book_model.specs.Book.{BookView}
use Rattle.journal_codec.specs.Format.{front_from}
use Rattle.gate_journal.specs.Opening.{NoBatch, IsDamagedFrom}
use Rattle.journal_codec.specs.Batches.{AllApply, book_after}

-- In a file with this head, good batches above this book come before the rest, and give another book.
pub record WalkedFrom (head : List ℕ) (start : BookView) (bytes rest : List ℕ) (book : BookView) (count : ℕ) : Type 0 where
  pub batches : List (List Act)
  pub is : bytes ≡ front_from head batches ++ rest
  pub some : rest ≢ []
  pub valid : AllApply start batches
  pub book_is : book ≡ book_after start batches
  pub count_is : count ≡ length batches

-- A file begins with this head, and something follows it: at least a gate.
pub record BeginsWith (head file behind : List ℕ) : Type 0 where
  pub is : file ≡ head ++ behind
  pub some : behind ≢ []

-- why a walk over a file with this head, above this book, gives no batches
abbrev pub StopsFrom : List ℕ → BookView → List ℕ → OpenFault → Type 0
StopsFrom head start file opening.Memory = Unit {0}
StopsFrom head start file (opening.Damaged place) = IsDamagedFrom head start file place
StopsFrom head start file _ = ⊥

-- the fault of a file whose book refuses a batch
abbrev pub refused_as : BookFault → ℕ → OpenFault
refused_as books.Memory at = opening.Memory
refused_as _ at = opening.Damaged at

-- why no batch after an open gate at this place is applied to this book
abbrev pub IsNoNext : BookView → List ℕ → ℕ → OpenFault → Type 0
IsNoNext book inside at opening.Memory = Unit {0}
IsNoNext book inside at (opening.Damaged place) = (place ≡ at) × NoBatch book inside
IsNoNext book inside at _ = ⊥
