-- The numbers of the faults of a configuration.
use Rattle.std.specs.Prelude.{ℕ}
use Rattle.route_table.specs.declared.faults.FaultKind.{FaultKind}
use Rattle.route_table.specs.declared.faults.FaultKind.TheVariants.{Syntax, UnknownSection, UnknownAttribute, BadValue, DuplicatePrefix, Memory}

-- the number that is printed
abbrev pub fault_number : FaultKind → ℕ
fault_number Syntax = 1
fault_number UnknownSection = 2
fault_number UnknownAttribute = 3
fault_number BadValue = 4
fault_number DuplicatePrefix = 5
fault_number Memory = 6
