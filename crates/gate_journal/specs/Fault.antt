-- How a journal reports a disk's fault.
use Rattle.disk_core.specs.declared.fault.DiskFault.{DiskFault}
use Rattle.disk_core.specs.declared.fault.DiskFault.TheVariants as disk
use Rattle.gate_journal.specs.declared.fault.JournalFault.{JournalFault}
use Rattle.gate_journal.specs.declared.fault.JournalFault.TheVariants as journal
use Rattle.gate_journal.specs.declared.fault.OpenFault.{OpenFault}
use Rattle.gate_journal.specs.declared.fault.OpenFault.TheVariants as opening

abbrev pub fault_of_disk : DiskFault → JournalFault
fault_of_disk disk.Failed = journal.Disk
fault_of_disk disk.Memory = journal.Memory

abbrev pub fault_of_open : DiskFault → OpenFault
fault_of_open disk.Failed = opening.Disk
fault_of_open disk.Memory = opening.Memory
