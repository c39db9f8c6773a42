-- Why two files can't be opened.
use Rattle.std.specs.Prelude.{◌≡◌, ◌⊎◌, ℕ, List, ◌∷◌, ◌++◌}
use Rattle.disk_core.specs.declared.side.Side.{Side}
use Rattle.disk_core.specs.Twin.{Contents}
use Rattle.book_model.specs.Book.{BookView}
use Rattle.gate_journal.specs.declared.fault.OpenFault.{OpenFault}
use Rattle.gate_journal.specs.declared.fault.OpenFault.TheVariants.{NotAJournal, Damaged, Disk, Memory}
use Rattle.gate_journal.specs.Opening.{IsDamagedFrom}
use Rattle.twin_journal.specs.Format.{magic}
use Rattle.twin_journal.specs.Sides.{IsNoSide, IsActive, NoneActive}
use Rattle.twin_journal.specs.Checkpoints.{IsStamp, NoStamp}

-- The two files are sides of a journal, and neither is active.
pub record IsUndecided (contents : Contents) : Type 0 where
  pub sides : (side : Side) → IsNoSide (contents side) → ⊥
  pub none : NoneActive contents

-- The head of the active side can't be read.
pub record IsHeadless (contents : Contents) : Type 0 where
  pub side : Side
  pub active : IsActive contents side
  pub inside : List ℕ
  pub is : contents side ≡ magic ++ 1 ∷ inside
  pub none : NoStamp inside

-- The active side has a head, and behind good batches an open gate at this place with no batch behind it.
pub record IsBroken (contents : Contents) (place : ℕ) : Type 0 where
  pub side : Side
  pub active : IsActive contents side
  pub epoch : ℕ
  pub base : ℕ
  pub size : ℕ
  pub stamp : List ℕ
  pub start : BookView
  pub is_stamp : IsStamp stamp epoch base size start
  pub damaged : IsDamagedFrom (magic ++ 1 ∷ stamp) start (contents side) place

-- Two files are damaged at a place: at the gate of the heads, which is at 8, or at a gate of the active side behind its
-- head.
abbrev pub IsDamagedAt : Contents → ℕ → Type 0
IsDamagedAt contents place = ((place ≡ 8) × (IsUndecided contents ⊎ IsHeadless contents)) ⊎ IsBroken contents place

-- why opening two files answers a fault
abbrev pub Explains : Contents → OpenFault → Type 0
Explains contents NotAJournal = (side : Side) × IsNoSide (contents side)
Explains contents (Damaged place) = IsDamagedAt contents place
Explains contents Disk = Unit {0}
Explains contents Memory = Unit {0}

-- why the gate of a side isn't read
abbrev pub IsGateFault : List ℕ → OpenFault → Type 0
IsGateFault file NotAJournal = IsNoSide file
IsGateFault file (Damaged place) = ⊥
IsGateFault file Disk = Unit {0}
IsGateFault file Memory = Unit {0}

-- why the head of an active side with these bytes isn't read
abbrev pub IsHeadFault : List ℕ → OpenFault → Type 0
IsHeadFault inside NotAJournal = ⊥
IsHeadFault inside (Damaged place) = (place ≡ 8) × NoStamp inside
IsHeadFault inside Disk = ⊥
IsHeadFault inside Memory = Unit {0}
