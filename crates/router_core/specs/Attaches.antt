-- Attaches among the items and events of a trace.
use Rattle.std.specs.Prelude.{Bool, true, false}
use Rattle.amqp_model.specs.declared.perf.Perf.{Perf}
use Rattle.amqp_model.specs.declared.perf.Perf.TheVariants as perf
use Rattle.amqp_model.specs.declared.item.Item.{Item}
use Rattle.amqp_model.specs.declared.item.Item.TheVariants as item
use Rattle.router_trace.specs.declared.event.Event.{Event}
use Rattle.router_trace.specs.declared.event.Event.TheVariants as event

-- whether an item, and an event, brings an attach
abbrev pub is_attach_in : Perf → Bool
is_attach_in (perf.Attach a) = true
is_attach_in _ = false

abbrev pub is_attach : Item → Bool
is_attach (item.Frame sasl channel body payload) = is_attach_in body
is_attach _ = false

abbrev pub brings_attach : Event → Bool
brings_attach (event.Item d i) = is_attach i
brings_attach _ = false
