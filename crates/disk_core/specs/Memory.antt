-- A disk in memory, as its callers see it.
use Rattle.std.specs.Prelude.{ℕ, List, length}
use Rattle.disk_core.specs.declared.memory.MemDisk.{MemDisk}
use Rattle.disk_core.specs.Call.{events_of}
use Rattle.disk_core.specs.Event.{kept_of, ImagesNow, Images}

-- what a read gives
abbrev pub bytes_of : MemDisk → List ℕ
bytes_of disk = disk.bytes.items

-- what a read gave at the last sync
abbrev pub synced_bytes : MemDisk → List ℕ
synced_bytes disk = kept_of disk.first.items (events_of disk.calls.items)

-- what a crash may leave
abbrev pub images_of : MemDisk → List ℕ → Type 0
images_of disk = ImagesNow disk.first.items (events_of disk.calls.items)

-- the number of events
abbrev pub moment_of : MemDisk → ℕ
moment_of disk = length (events_of disk.calls.items)

-- what a crash at some moment from one on might have left
abbrev pub left_since_of : MemDisk → ℕ → List ℕ → Type 0
left_since_of disk = Images disk.first.items (events_of disk.calls.items)
