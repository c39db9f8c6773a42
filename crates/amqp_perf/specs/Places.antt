-- A reader's place, and how its answer relates to the definition.
use Rattle.std.specs.Prelude.{◌≡◌, Result, Ok, Err}
use Rattle.amqp_model.specs.declared.perf_fault.PerfFault.{PerfFault}
use Rattle.amqp_model.specs.declared.perf_fault.PerfFault.TheVariants as fault
use Rattle.amqp_perf.specs.declared.fields.Fields.{Fields}
use Rattle.amqp_perf.specs.Fields.{At}

abbrev pub at_of : Fields → At
at_of f = record { depth = f.depth; left = f.left; bytes = f.rest.now }

-- what a reader took, seen by see, and the place after it are those of the definition, unless memory was refused
abbrev pub Took : {X A : Type 0} → (X → A) → Result X PerfFault → At → Result (A × At) PerfFault → Type 0
Took see (Ok x) behind defined = defined ≡ Ok (see x, behind)
Took see (Err e) behind defined = (e ≡ fault.Memory → ⊥) → defined ≡ Err e
