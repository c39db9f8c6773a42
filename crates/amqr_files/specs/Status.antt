-- How the program ends.
use Rattle.std.specs.Prelude.{ℕ, List, ◌++◌, codes, decimal}
use Rattle.disk_core.specs.declared.fault.DiskFault.{DiskFault}
use Rattle.disk_core.specs.declared.fault.DiskFault.TheVariants as disk
use Rattle.gate_journal.specs.declared.fault.OpenFault.{OpenFault}
use Rattle.gate_journal.specs.declared.fault.OpenFault.TheVariants as opening
use Rattle.route_table.specs.FaultNumbers.{fault_number}
use Rattle.amqr_files.specs.declared.status.Status.{Status}
use Rattle.amqr_files.specs.declared.status.Status.TheVariants as status
use Rattle.amqr_files.specs.declared.status.Refusal.{Refusal}
use Rattle.amqr_files.specs.declared.status.Refusal.TheVariants as refusal

-- the exit code of the process
abbrev pub code_of : Status → ℕ
code_of status.Done = 0
code_of status.BadInput = 1
code_of status.BadWords = 2
code_of status.Failed = 3

-- how the program ends where it refuses its input
abbrev pub status_of : Refusal → Status
status_of (refusal.Script line) = status.BadInput
status_of (refusal.Config line kind) = status.BadInput
status_of refusal.File = status.BadInput
status_of refusal.Exists = status.BadInput
status_of refusal.NoJournal = status.BadInput
status_of (refusal.Damaged place) = status.BadInput
status_of refusal.Disk = status.Failed
status_of refusal.Memory = status.Failed

-- the refusal for a disk's fault
abbrev pub refusal_of : DiskFault → Refusal
refusal_of disk.Failed = refusal.Disk
refusal_of disk.Memory = refusal.Memory

-- the refusal where a journal can't be opened
abbrev pub refusal_to_open : OpenFault → Refusal
refusal_to_open opening.NotAJournal = refusal.NoJournal
refusal_to_open (opening.Damaged place) = refusal.Damaged place
refusal_to_open opening.Disk = refusal.Disk
refusal_to_open opening.Memory = refusal.Memory

-- the line that the program prints then
abbrev pub refusal_text : Refusal → List ℕ
refusal_text (refusal.Script line) = codes "script " ++ decimal line
refusal_text (refusal.Config line kind) = codes "config " ++ (decimal line ++ (codes " " ++ decimal (fault_number kind)))
refusal_text refusal.File = codes "file"
refusal_text refusal.Exists = codes "exists"
refusal_text refusal.NoJournal = codes "no journal"
refusal_text (refusal.Damaged place) = codes "damaged " ++ decimal place
refusal_text refusal.Disk = codes "disk"
refusal_text refusal.Memory = codes "memory"
