-- The fault with which a router failed, and the lines that tell of it.
use Rattle.std.specs.Prelude.{List, Option, Some, None, Contains, ⊤}
use Rattle.core_machine.specs.declared.fault.CoreFault.{CoreFault}
use Rattle.core_machine.specs.declared.fault.CoreFault.TheVariants.{Disk, Memory, Failed, NoConnection}
use Rattle.core_player.specs.declared.line.Line.{Line}
use Rattle.core_player.specs.declared.line.Line.TheVariants as line

-- the fault with which a router failed, once it has answered with this fault
abbrev pub fault_after : Option CoreFault → CoreFault → Option CoreFault
fault_after old Disk = Some Disk
fault_after old Memory = Some Memory
fault_after old Failed = old
fault_after old NoConnection = old

-- if a router failed, these lines say with which fault
abbrev pub TellsOf : Option CoreFault → List Line → Type 0
TellsOf None lines = ⊤
TellsOf (Some fault) lines = Contains lines (line.Failed fault)
