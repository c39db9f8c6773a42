-- What is found in the bytes of a side, and that it was found by reads alone.
use Rattle.std.specs.Prelude.{◌≡◌, ◌≢◌, ℕ, ◌<◌, ◌≤◌, ◌^◌, List, [], ◌∷◌, ◌++◌, length}
use Rattle.disk_core.specs.Disk.{NoMore, LeavesOnly}
use Rattle.disk_core.specs.Twin.{other, Contents}
use Rattle.book_model.specs.Book.{BookView}
use Rattle.book_model.specs.Restoring.{acts_of_book}
use Rattle.journal_codec.specs.Batches.{HaveOutcomes, HaveTermini}
use Rattle.journal_codec.specs.Format.{in_4}
use Rattle.twin_journal.specs.Checkpoints.{IsStamp}
use Rattle.gate_journal.specs.Scanning.{BeginsWith}
use Rattle.twin_journal.specs.Format.{magic, largest, stamp_bytes}
use Rattle.twin_journal.specs.Sides.{IsActive, IsGate}
use Rattle.twin_journal.specs.declared.whole.ActiveSide.{ActiveSide}

-- Bytes begin with a checkpoint's bytes after their length, and something follows them: at least a gate.
pub record IsSized (bytes checkpoint behind : List ℕ) : Type 0 where
  pub is : bytes ≡ in_4 (length checkpoint) ++ (checkpoint ++ behind)
  pub short : length checkpoint < 2 ^ 32
  pub some : behind ≢ []

-- Bytes begin with an epoch, a base and a checkpoint's bytes, and something follows them: at least a gate.
pub record AreFields (bytes : List ℕ) (epoch base : ℕ) (checkpoint behind : List ℕ) : Type 0 where
  pub is : bytes ≡ stamp_bytes epoch base checkpoint ++ behind
  pub epoch_fits : epoch ≤ largest
  pub base_fits : base ≤ largest
  pub short : length checkpoint < 2 ^ 32
  pub some : behind ≢ []

-- Bytes begin with epoch, base and a book's checkpoint, and something follows them.
pub record BeginsWithStamp (bytes : List ℕ) (epoch base size : ℕ) (book : BookView) (behind : List ℕ) : Type 0 where
  pub stamp : List ℕ
  pub is_stamp : IsStamp stamp epoch base size book
  pub is : bytes ≡ stamp ++ behind
  pub some : behind ≢ []

-- A side begins with a head, and something follows it.
pub record HasHead (bytes : List ℕ) (epoch base size : ℕ) (book : BookView) (behind : List ℕ) : Type 0 where
  pub stamp : List ℕ
  pub is_stamp : IsStamp stamp epoch base size book
  pub begins : BeginsWith (magic ++ 1 ∷ stamp) bytes behind

-- what a side gets behind its gate: epoch, base and checkpoint, and a closed gate
pub record IsFill (bytes : List ℕ) (epoch base size : ℕ) (book : BookView) : Type 0 where
  pub stamp : List ℕ
  pub is_stamp : IsStamp stamp epoch base size book
  pub is : bytes ≡ stamp ++ 0 ∷ []

-- a book whose acts can be written: each outcome is one, and each terminus that a row is bound to has a number above 0
pub record IsWritten (b : BookView) : Type 0 where
  pub outcomes : HaveOutcomes (acts_of_book b)
  pub termini : HaveTermini (acts_of_book b)

-- Only reads and syncs: a crash at any moment of them, and after them, leaves what it might have left before.
pub record IsUnwritten {T : Type 0} (moment : T → ℕ) (left_since : T → ℕ → Contents → Type 0) (may_leave : T → Contents → Type 0) (old new : T) : Type 0 where
  pub crash : NoMore (may_leave old) (may_leave new)
  pub any_moment : LeavesOnly moment left_since old new (may_leave old)

-- The bytes of the active side of two files were read, and whether the other side's gate is open.
pub record IsRead (active : ActiveSide) (contents : Contents) : Type 0 where
  pub bytes : active.bytes.items ≡ contents active.side
  pub is_active : IsActive contents active.side
  pub idle : IsGate active.idle_open (contents (other active.side))
