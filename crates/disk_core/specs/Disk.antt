-- What the calls of a disk do to its bytes, and what a crash may leave of them.
-- Source: the project's own disk model, described in docs/disk.md. Between two syncs each written range and the part
-- past the old end may hold any bytes; bytes outside stay; after a successful sync a crash leaves what a read gives.
use Rattle.std.specs.Prelude.{◌<◌, ◌≡◌, ◌⊎◌, ℕ, ◌+◌, ◌-◌, ◌≤◌, Bool, false, ◌&&◌, ◌||◌, nat_le, nat_lt, List, [], ◌∷◌, ◌++◌, length, take, drop, replicate, slice_get, Result, IsErrOf}
use Rattle.disk_core.specs.declared.fault.DiskFault.{DiskFault}
use Rattle.disk_core.specs.declared.fault.DiskFault.TheVariants.{Failed}

-- at most this many bytes of a file from a place on: fewer where it ends earlier, none past its end
abbrev pub part : ℕ → ℕ → List ℕ → List ℕ
part at most file = take most (drop at file)

-- a file after a write: zeros fill a gap before the place, and a write of no bytes changes nothing
abbrev pub overwritten : ℕ → List ℕ → List ℕ → List ℕ
overwritten at [] old = old
overwritten at (byte ∷ bytes) old = take at old ++ replicate (at - length old) 0 ++ (byte ∷ bytes) ++ drop (at + length (byte ∷ bytes)) old

-- the places of a write, from one place up to another, and those of a cut, which counts as a write of all from its place on
abbrev pub between : ℕ → ℕ → ℕ → Bool
between at end place = nat_le at place && nat_lt place end

abbrev pub from : ℕ → ℕ → Bool
from at place = nat_le at place

-- A file has each byte of another, except at open places. After the other's end it may have anything; where all from some
-- place on is open, it may end there.
abbrev pub Agrees : (ℕ → Bool) → List ℕ → List ℕ → Type 0
Agrees free file c = (place : ℕ) → place < length file → free place ≡ false → slice_get c place ≡ slice_get file place

-- each outcome of a crash has the bytes of a file, except at open places
abbrev pub Spares : (ℕ → Bool) → List ℕ → (List ℕ → Type 0) → Type 0
Spares free file outcomes = (c : List ℕ) → outcomes c → Agrees free file c

-- Whatever a crash would have left stays, except at these places. So the order of the writes doesn't matter.
pub record Opens (places : ℕ → Bool) (old new : List ℕ → Type 0) : Type 0 where
  pub spares : (file : List ℕ) (free : ℕ → Bool) → Spares free file old → Spares (λ place. free place || places place) file new

-- What a write from one place up to another may leave of a file that a crash would have left whole: any bytes between the
-- two places and past the old end, the same bytes elsewhere. It agrees except there.
pub record Spoilt (at end : ℕ) (old new : List ℕ) : Type 0 where
  pub middle : List ℕ
  pub past : List ℕ
  pub is : new ≡ take at old ++ middle ++ drop end old ++ past
  pub fits : end < length old → length middle ≡ end - at

-- What follows is said of contents of any type: the bytes of one file, or of several.

-- a crash leaves nothing that it might not have left before
abbrev pub NoMore : {C : Type 0} → (C → Type 0) → (C → Type 0) → Type 0
NoMore {C = C} old new = (c : C) → new c → old c

-- a crash leaves this and nothing else
abbrev pub Only : {C : Type 0} → C → (C → Type 0) → Type 0
Only {C = C} contents outcomes = (c : C) → outcomes c → c ≡ contents

-- Time goes on: a crash since t might have left what it might have left before, or what it may leave now.
pub record Elapses {C : Type 0} (before now : ℕ) (past since : ℕ → C → Type 0) (may_leave : C → Type 0) : Type 0 where
  pub later : before ≤ now
  pub nothing_else : (t : ℕ) (c : C) → t ≤ before → since t c → past t c ⊎ may_leave c
  pub keeps : (t : ℕ) (c : C) → t ≤ before → past t c → since t c

-- a crash at any moment since old, up to new, leaves contents that have P
pub record LeavesOnly {D : Type 0} {C : Type 0} (moment : D → ℕ) (left_since : D → ℕ → C → Type 0) (old new : D) (P : C → Type 0) : Type 0 where
  pub later : moment old ≤ moment new
  pub each : (c : C) → left_since new (moment old) c → P c
  -- for a run that began earlier
  pub before : (t : ℕ) (c : C) → t ≤ moment old → left_since new t c → left_since old t c ⊎ P c

-- `Failed` is answered exactly where the disk failed once more
pub record HasCause {T : Type 0} (before now : ℕ) (result : Result T DiskFault) : Type 0 where
  pub failed : IsErrOf result Failed → now ≡ before + 1
  pub else_same : (IsErrOf result Failed → ⊥) → now ≡ before
