-- What two files hold, and the book to which they open.
use Rattle.std.specs.Prelude.{◌≡◌, ◌⊎◌, ◌+◌, ℕ, List, [], ◌∷◌, ◌++◌, length}
use Rattle.disk_core.specs.declared.side.Side.{Side}
use Rattle.disk_core.specs.Twin.{other, Contents}
use Rattle.book_model.specs.declared.act.Act.{Act}
use Rattle.book_model.specs.Book.{BookView, effects}
use Rattle.journal_codec.specs.Batches.{HoldsFrom, book_after}
use Rattle.twin_journal.specs.Format.{magic}
use Rattle.twin_journal.specs.Sides.{IsIdle}
use Rattle.twin_journal.specs.Checkpoints.{IsStamp}

-- One side is active: behind its head, whose checkpoint is of this book, it holds these batches. The other one is idle.
pub record HoldsOn (side : Side) (contents : Contents) (epoch base size : ℕ) (stamp : List ℕ) (start : BookView) (bs : List (List Act)) : Type 0 where
  pub is_stamp : IsStamp stamp epoch base size start
  pub holds : HoldsFrom (magic ++ 1 ∷ stamp) start (contents side) bs
  pub idle : IsIdle epoch (contents (other side))

-- Two files hold the batches after a base: those up to it are in the book of the active side's checkpoint.
pub record TwinHolds (contents : Contents) (base : ℕ) (start : BookView) (bs : List (List Act)) : Type 0 where
  pub side : Side
  pub epoch : ℕ
  pub size : ℕ
  pub stamp : List ℕ
  pub on : HoldsOn side contents epoch base size stamp start bs

-- Two files open to a book: their batches leave it.
pub record OpensTo (contents : Contents) (book : BookView) : Type 0 where
  pub base : ℕ
  pub start : BookView
  pub batches : List (List Act)
  pub holds : TwinHolds contents base start batches
  pub leaves : book ≡ book_after start batches

-- the last of some batches; no acts where there are none
abbrev pub last_of : List (List Act) → List Act
last_of [] = []
last_of (acts ∷ []) = acts
last_of (acts ∷ more ∷ bs) = last_of (more ∷ bs)

-- Two files are a journal that leaves this book after so many batches, the last of them of these acts; none where the checkpoint has them all.
pub record HoldsUpTo (contents : Contents) (book : BookView) (count : ℕ) (last : List Act) : Type 0 where
  pub base : ℕ
  pub start : BookView
  pub batches : List (List Act)
  pub holds : TwinHolds contents base start batches
  pub leaves : book ≡ book_after start batches
  pub counted : count ≡ base + length batches
  pub last_is : last ≡ last_of batches

-- The same before a batch, whatever the last one is then, and after it.
abbrev pub HoldsAt : Contents → BookView → ℕ → Type 0
HoldsAt contents book count = (last : List Act) × HoldsUpTo contents book count last

abbrev pub BeforeOrAfter : BookView → ℕ → List Act → Contents → Type 0
BeforeOrAfter book count acts contents = HoldsAt contents book count ⊎ HoldsUpTo contents (effects book acts) (count + 1) acts
