-- A fuse: it lets a number of calls through, and then none.
use Rattle.std.specs.Prelude.{◌≡◌, ℕ, zero, suc, Bool, Option, None, Some, Result, IsErr}
use Rattle.disk_core.specs.declared.fault.DiskFault.{DiskFault}
use Rattle.disk_core.specs.declared.fuse.FuseDisk.{FuseDisk}

-- the calls that it still lets through; no fuse is set at `None`
abbrev pub calls_left : {D : Type 0} → FuseDisk D → Option ℕ
calls_left disk = disk.left

-- a write that failed at the fuse has begun
abbrev pub has_begun : {D : Type 0} → FuseDisk D → Bool
has_begun disk = disk.begun

-- the calls that failed at the fuse
abbrev pub own_failures : {D : Type 0} → FuseDisk D → ℕ
own_failures disk = disk.failed

-- the disk below
abbrev pub disk_of : {D : Type 0} → FuseDisk D → D
disk_of disk = disk.inner

-- what one call does to a fuse
abbrev pub Burns : {T : Type 0} → Option ℕ → Option ℕ → Result T DiskFault → Type 0
Burns None after result = after ≡ None
Burns (Some zero) after result = (after ≡ Some 0) × IsErr result
Burns (Some (suc calls)) after result = after ≡ Some calls
