-- The numbers of the faults.
use Rattle.std.specs.Prelude.{ℕ}
use Rattle.amqp_model.specs.declared.type_fault.TypeFault.{TypeFault}
use Rattle.amqp_model.specs.declared.type_fault.TypeFault.TheVariants as fault

abbrev pub fault_number : TypeFault → ℕ
fault_number fault.Truncated = 1
fault_number fault.UnknownCode = 2
fault_number fault.BadBool = 3
fault_number fault.BadUtf8 = 4
fault_number fault.BadChar = 5
fault_number fault.BadSymbol = 6
fault_number fault.SizeMismatch = 7
fault_number fault.OddMap = 8
fault_number fault.TooDeep = 9
fault_number fault.DescribedArray = 10
fault_number fault.Memory = 11

-- Within a list, a map or an array the bytes end where its size says, so that the size is wrong
-- where a value goes on.
abbrev pub inner : TypeFault → TypeFault
inner fault.Truncated = fault.SizeMismatch
inner e = e
