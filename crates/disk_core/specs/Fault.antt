-- The numbers under which programs report a disk's faults.
use Rattle.std.specs.Prelude.{ℕ}
use Rattle.disk_core.specs.declared.fault.DiskFault.{DiskFault}
use Rattle.disk_core.specs.declared.fault.DiskFault.TheVariants.{Failed, Memory}

-- own numbering: 1 for the device, 2 for memory
abbrev pub number_of : DiskFault → ℕ
number_of Failed = 1
number_of Memory = 2
