-- How a reader's answer relates to the definition.
use Rattle.std.specs.Prelude.{◌≡◌, Result, Ok, Err}
use Rattle.amqp_model.specs.declared.perf_fault.PerfFault.{PerfFault}
use Rattle.amqp_model.specs.declared.perf_fault.PerfFault.TheVariants as fault

-- what a function answers is what the definition gives, unless memory was refused
abbrev pub Gives : {A : Type 0} → Result A PerfFault → Result A PerfFault → Type 0
Gives (Ok x) defined = defined ≡ Ok x
Gives (Err e) defined = (e ≡ fault.Memory → ⊥) → defined ≡ Err e

-- the same, of an answer that is seen by see
abbrev pub GivesAs : {X A : Type 0} → (X → A) → Result X PerfFault → Result A PerfFault → Type 0
GivesAs see (Ok x) defined = defined ≡ Ok (see x)
GivesAs see (Err e) defined = (e ≡ fault.Memory → ⊥) → defined ≡ Err e

-- the fault is the one that is defined, unless it is that of memory
abbrev pub Refuses : {A : Type 0} → PerfFault → Result A PerfFault → Type 0
Refuses e defined = (e ≡ fault.Memory → ⊥) → defined ≡ Err e
