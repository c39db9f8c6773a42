-- The two sides of a journal: what their gates say, and which one is active.
use Rattle.std.specs.Prelude.{◌≡◌, ◌≢◌, ◌⊎◌, ℕ, ◌<◌, ◌^◌, Bool, true, false, List, ◌∷◌, ◌++◌, length, take, Option, Some, None, nat_lt, if◌then◌else◌}
use Rattle.disk_core.specs.declared.side.Side.{Side}
use Rattle.disk_core.specs.declared.side.Side.TheVariants.{First, Second}
use Rattle.disk_core.specs.Twin.{other, Contents}
use Rattle.journal_codec.specs.Format.{in_8}
use Rattle.twin_journal.specs.declared.gate.Gate.{Gate}
use Rattle.twin_journal.specs.declared.gate.Gate.TheVariants.{Shut, Open}
use Rattle.twin_journal.specs.Format.{magic}

-- a file that is no side of a journal: it is too short for a gate, or begins otherwise
abbrev pub IsNoSide : List ℕ → Type 0
IsNoSide file = (length file < 9) ⊎ (take 8 file ≢ magic)

-- a side whose gate isn't open (1 is open)
pub record IsShut (file : List ℕ) : Type 0 where
  pub gate : ℕ
  pub rest : List ℕ
  pub shut : gate ≢ 1
  pub is : file ≡ magic ++ gate ∷ rest

-- a side whose gate is open
pub record IsOpen (file : List ℕ) : Type 0 where
  pub rest : List ℕ
  pub is : file ≡ magic ++ 1 ∷ rest

-- a side whose gate is open and followed by this epoch, whatever comes behind it
pub record HasEpoch (epoch : ℕ) (file : List ℕ) : Type 0 where
  pub rest : List ℕ
  pub is : file ≡ magic ++ 1 ∷ (in_8 epoch ++ rest)
  pub fits : epoch < 2 ^ 64

-- a side whose gate is open, with a lower epoch than this one
pub record IsOlder (epoch : ℕ) (file : List ℕ) : Type 0 where
  pub older : ℕ
  pub has : HasEpoch older file
  pub lower : older < epoch

-- A side that doesn't come into question beside one with this epoch.
abbrev pub IsIdle : ℕ → List ℕ → Type 0
IsIdle epoch file = IsShut file ⊎ IsOlder epoch file

-- The active side is the one whose gate is open; of two, the one with the higher epoch.
pub record IsNewer (file than : List ℕ) : Type 0 where
  pub epoch : ℕ
  pub has : HasEpoch epoch file
  pub older : IsOlder epoch than

pub record IsActive (contents : Contents) (side : Side) : Type 0 where
  pub opened : IsOpen (contents side)
  pub alone_or_newer : IsShut (contents (other side)) ⊎ IsNewer (contents side) (contents (other side))

-- no side is: neither gate is open, or both are, and their epochs are the same, or one of them isn't there whole
abbrev pub NoneActive : Contents → Type 0
NoneActive contents = (side : Side) → IsActive contents side → ⊥

-- what the first bytes of a side say of it
abbrev pub Says : List ℕ → Gate → Type 0
Says file Shut = IsShut file
Says file (Open None) = IsOpen file × (length file < 17)
Says file (Open (Some epoch)) = HasEpoch epoch file

-- whether a gate is open
abbrev pub is_open : Gate → Bool
is_open Shut = false
is_open (Open epoch) = true

-- the side with the higher one of two epochs
abbrev pub newer_side : ℕ → ℕ → Option Side
newer_side first second = if nat_lt second first then Some First else if nat_lt first second then Some Second else None

-- a side whose gate is open, or isn't
abbrev pub IsGate : Bool → List ℕ → Type 0
IsGate true file = IsOpen file
IsGate false file = IsShut file
