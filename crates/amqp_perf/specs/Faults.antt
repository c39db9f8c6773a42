-- What becomes of a fault within a list, and of a value's own.
use Rattle.std.specs.Prelude.{Result, Ok, Err}
use Rattle.amqp_model.specs.declared.type_fault.TypeFault.{TypeFault}
use Rattle.amqp_model.specs.declared.type_fault.TypeFault.TheVariants as type_fault
use Rattle.amqp_model.specs.declared.perf_fault.PerfFault.{PerfFault}
use Rattle.amqp_model.specs.declared.perf_fault.PerfFault.TheVariants as fault
use Rattle.amqp_model.specs.PerfFaults.{outer}

-- A value's own fault within a list: where the bytes end there, the list's size is wrong.
abbrev pub inner : TypeFault → PerfFault
inner type_fault.Truncated = fault.Spelling type_fault.SizeMismatch
inner f = outer f

-- the end of the bytes, within a list
abbrev pub inside : PerfFault → PerfFault
inside (fault.Spelling type_fault.Truncated) = fault.Spelling type_fault.SizeMismatch
inside f = f

infixl 10 ◌>>=◌
abbrev pub ◌>>=◌ : {A B : Type 0} → Result A PerfFault → (A → Result B PerfFault) → Result B PerfFault
(Ok x) >>= f = f x
(Err e) >>= f = Err e

-- what a reader of values gives, with its fault as one of performatives
abbrev pub by_fault : {A : Type 0} → (TypeFault → PerfFault) → Result A TypeFault → Result A PerfFault
by_fault see (Ok x) = Ok x
by_fault see (Err f) = Err (see f)

-- what is read within a list
abbrev pub within : {A : Type 0} → Result A PerfFault → Result A PerfFault
within (Ok x) = Ok x
within (Err f) = Err (inside f)
