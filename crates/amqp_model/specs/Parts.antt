-- The parts of a performative.
use Rattle.std.specs.Prelude.{Option, Some, None}
use Rattle.amqp_model.specs.declared.perf.Attach.{Attach}
use Rattle.amqp_model.specs.declared.perf.Perf.{Perf}
use Rattle.amqp_model.specs.declared.perf.Perf.TheVariants as perf

-- the attach that a performative is
abbrev pub attach_of : Perf → Option Attach
attach_of (perf.Attach a) = Some a
attach_of _ = None
