-- A disk over a file, as its callers see it.
use Rattle.std.specs.Prelude.{ℕ, Bool, List, [], length}
use Rattle.disk_core.specs.declared.file.FileDisk.{FileDisk}
use Rattle.disk_core.specs.Event.{Event, ImagesNow, Images}
use Rattle.disk_core.specs.Note.{events_noted}

-- the bytes that the file holds, by this disk's own account
abbrev pub bytes_in : FileDisk → List ℕ
bytes_in disk = disk.bytes.items

-- the failed system calls
abbrev pub failures_of : FileDisk → ℕ
failures_of disk = disk.failed

-- a sync has failed, or the file may differ from the copy, so that no sync is trusted any more
abbrev pub has_lost : FileDisk → Bool
has_lost disk = disk.lost

-- what was done to it, by its record, the newest first
abbrev pub events_in : FileDisk → List Event
events_in disk = events_noted disk.history.notes

-- what a crash may leave, by its record
abbrev pub images_of : FileDisk → List ℕ → Type 0
images_of disk = ImagesNow [] (events_noted disk.history.notes)

-- the number of events
abbrev pub moment_of : FileDisk → ℕ
moment_of disk = length (events_noted disk.history.notes)

-- what a crash at some moment from one on might have left
abbrev pub left_since_of : FileDisk → ℕ → List ℕ → Type 0
left_since_of disk = Images [] (events_noted disk.history.notes)
