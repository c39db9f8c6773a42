-- The faults of performatives, and which of them a value's own is.
use Rattle.std.specs.Prelude.{ℕ}
use Rattle.amqp_model.specs.declared.type_fault.TypeFault.{TypeFault}
use Rattle.amqp_model.specs.declared.type_fault.TypeFault.TheVariants as type_fault
use Rattle.amqp_model.specs.declared.perf_fault.PerfFault.{PerfFault}
use Rattle.amqp_model.specs.declared.perf_fault.PerfFault.TheVariants as fault

-- a fault's number
abbrev pub fault_number : PerfFault → ℕ
fault_number (fault.Spelling f) = 1
fault_number fault.NotPerformative = 2
fault_number fault.MissingField = 3
fault_number fault.WrongKind = 4
fault_number fault.TooManyFields = 5
fault_number fault.TagTooLong = 6
fault_number fault.DuplicateTag = 7
fault_number fault.Memory = 8

-- a value's own fault, where no list is around it
abbrev pub outer : TypeFault → PerfFault
outer type_fault.Memory = fault.Memory
outer f = fault.Spelling f
