-- Two files as one list of what was done to them, the newest first: what a crash may leave of both.
use Rattle.std.specs.Prelude.{◌≡◌, ◌⊎◌, ℕ, ◌≤◌, List, [], ◌∷◌, length, Option, None, Some, Result, Ok, Err}
use Rattle.disk_core.specs.declared.fault.DiskFault.{DiskFault}
use Rattle.disk_core.specs.declared.fault.DiskFault.TheVariants.{Failed, Memory}
use Rattle.disk_core.specs.declared.side.Side.{Side}
use Rattle.disk_core.specs.declared.side.Side.TheVariants.{First, Second}
use Rattle.disk_core.specs.Disk.{NoMore}
use Rattle.disk_core.specs.Event.{Event, Wrote, Shortened, Synced, BeganWrite, BeganCut, seen_of, ImagesNow}
use Rattle.disk_core.specs.Twin.{Contents}

-- an event of one side
pub data Turn : Type 0 where
  Of : (side : Side) (event : Event) → Turn

-- the events of one side
abbrev pub on : Side → List Turn → List Event
on side [] = []
on First (Of First event ∷ turns) = event ∷ on First turns
on First (Of Second event ∷ turns) = on First turns
on Second (Of First event ∷ turns) = on Second turns
on Second (Of Second event ∷ turns) = event ∷ on Second turns

-- the bytes of two files as the contents of both
abbrev pub both : List ℕ → List ℕ → Contents
both first second First = first
both first second Second = second

-- what a crash may leave now: of each side what its own events may leave, where nothing stood at first
abbrev pub LeftNow : List Turn → Contents → Type 0
LeftNow turns c = (side : Side) → ImagesNow [] (on side turns) (c side)

-- what a crash might have left of both sides at one moment from t on; a moment is the number of turns before it
abbrev pub LeftSince : List Turn → ℕ → Contents → Type 0
LeftSince [] t c = LeftNow [] c
LeftSince (turn ∷ turns) t c = LeftNow (turn ∷ turns) c ⊎ ((t ≤ length turns) × LeftSince turns t c)

-- a file reads as its events say, and a crash leaves no more of it than they say
pub record Told (events : List Event) (bytes : List ℕ) (may_leave : List ℕ → Type 0) : Type 0 where
  pub read : bytes ≡ seen_of [] events
  pub left : NoMore (ImagesNow [] events) may_leave

-- the turns after a call, if it was an event
abbrev pub add : Side → Option Event → List Turn → List Turn
add side None turns = turns
add side (Some event) turns = Of side event ∷ turns

-- the event that a write of some bytes is, by its answer: one that failed has begun
abbrev pub write_event : {T : Type 0} → ℕ → List ℕ → Result T DiskFault → Option Event
write_event at bytes (Ok done) = Some (Wrote at bytes)
write_event at bytes (Err Failed) = Some (BeganWrite at (length bytes))
write_event at bytes (Err Memory) = None

-- and that a cut of some bytes is
abbrev pub cut_event : {T : Type 0} → ℕ → Result T DiskFault → Option Event
cut_event len (Ok done) = Some (Shortened len)
cut_event len (Err Failed) = Some (BeganCut len)
cut_event len (Err Memory) = None

-- and that a sync is, which does nothing where it fails
abbrev pub sync_event : {T : Type 0} → Result T DiskFault → Option Event
sync_event (Ok done) = Some Synced
sync_event (Err fault) = None
