-- The numbers of faults.
use Rattle.std.specs.Prelude.{ℕ}
use Rattle.core_machine.specs.declared.fault.CoreFault.{CoreFault}
use Rattle.core_machine.specs.declared.fault.CoreFault.TheVariants.{Disk, Memory, Failed, NoConnection}

abbrev pub number_of : CoreFault → ℕ
number_of Disk = 1
number_of Memory = 2
number_of Failed = 3
number_of NoConnection = 4
