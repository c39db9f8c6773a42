-- Two files in memory, as their callers see them.
use Rattle.std.specs.Prelude.{ℕ, length}
use Rattle.disk_core.specs.declared.mem_twin.MemTwin.{MemTwin}
use Rattle.disk_core.specs.Memory.{bytes_of, synced_bytes}
use Rattle.disk_core.specs.Note.{turns_noted}
use Rattle.disk_core.specs.Turns.{both, LeftNow, LeftSince}
use Rattle.disk_core.specs.Twin.{Contents}

-- what a read gives
abbrev pub contents_of : MemTwin → Contents
contents_of twin = both (bytes_of twin.first) (bytes_of twin.second)

-- what a read gave of each side at its last sync
abbrev pub synced_contents : MemTwin → Contents
synced_contents twin = both (synced_bytes twin.first) (synced_bytes twin.second)

-- what a crash may leave
abbrev pub images_of : MemTwin → Contents → Type 0
images_of twin = LeftNow (turns_noted twin.history.notes)

-- the number of events, on both sides together
abbrev pub moment_of : MemTwin → ℕ
moment_of twin = length (turns_noted twin.history.notes)

-- what a crash at some moment from one on might have left
abbrev pub left_since_of : MemTwin → ℕ → Contents → Type 0
left_since_of twin = LeftSince (turns_noted twin.history.notes)
