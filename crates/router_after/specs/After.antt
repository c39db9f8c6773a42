-- What follows an event's rows: outcomes are sent to producers, deliveries to consumers, drains are answered, credit is granted, and at last narrow
-- windows are restored.
use Rattle.std.specs.Prelude.{List}
use Rattle.router_trace.specs.Trace.{Trace, Put, goes}
use Rattle.router_trace.specs.Following.{as_long_as_due, tells, sends_due, drains_due}
use Rattle.state_messages.specs.Messages.{grants_due}
use Rattle.state_sessions.specs.Windows.{windows}
use Rattle.router_after.specs.declared.phase.Phase.{Phase}
use Rattle.router_after.specs.declared.phase.Phase.TheVariants.{Outcomes, Deliveries, Drains, Grants}

abbrev pub told : Trace → Trace
told t = as_long_as_due tells t

abbrev pub sent : Trace → Trace
sent t = as_long_as_due sends_due t

abbrev pub drained : Trace → Trace
drained t = as_long_as_due drains_due t

abbrev pub granted : Trace → Trace
granted t = as_long_as_due grants_due t

abbrev pub widened : Trace → Trace
widened t = goes (windows t) t

abbrev pub followed : Trace → Trace
followed t = widened (granted (drained (sent (told t))))

-- what is due first in each of the four phases that repeat as long as something is due
abbrev pub due_in : Phase → Trace → List Put
due_in Outcomes = tells
due_in Deliveries = sends_due
due_in Drains = drains_due
due_in Grants = grants_due
