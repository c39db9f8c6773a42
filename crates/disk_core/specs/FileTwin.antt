-- Two files of the operating system, as their callers see them.
use Rattle.std.specs.Prelude.{ℕ, ◌+◌, Bool, List, length}
use Rattle.disk_core.specs.declared.file_twin.FileTwin.{FileTwin}
use Rattle.disk_core.specs.declared.side.Side.{Side}
use Rattle.disk_core.specs.declared.side.Side.TheVariants.{First, Second}
use Rattle.disk_core.specs.File as file
use Rattle.disk_core.specs.Note.{turns_noted}
use Rattle.disk_core.specs.Turns.{Turn, both, LeftNow, LeftSince}
use Rattle.disk_core.specs.Twin.{Contents}

-- the bytes that the files hold, by this twin's own account
abbrev pub contents_in : FileTwin → Contents
contents_in twin = both (file.bytes_in twin.first) (file.bytes_in twin.second)

-- the failed system calls, on both sides together
abbrev pub failures_of : FileTwin → ℕ
failures_of twin = file.failures_of twin.first + file.failures_of twin.second

-- a sync of that side has failed, or its file may differ from the copy, so that no sync of it is trusted any more
abbrev pub has_lost : FileTwin → Side → Bool
has_lost twin First = file.has_lost twin.first
has_lost twin Second = file.has_lost twin.second

-- what was done to both, by its record, the newest first
abbrev pub turns_in : FileTwin → List Turn
turns_in twin = turns_noted twin.history.notes

-- what a crash may leave, by its record
abbrev pub images_of : FileTwin → Contents → Type 0
images_of twin = LeftNow (turns_noted twin.history.notes)

-- the number of events, on both sides together
abbrev pub moment_of : FileTwin → ℕ
moment_of twin = length (turns_noted twin.history.notes)

-- what a crash at some moment from one on might have left
abbrev pub left_since_of : FileTwin → ℕ → Contents → Type 0
left_since_of twin = LeftSince (turns_noted twin.history.notes)
