-- How many events were handled, by kind, and how many batches were returned.
use Rattle.std.specs.Prelude.{◌+◌}
use Rattle.router_trace.specs.declared.event.Event.{Event}
use Rattle.router_trace.specs.declared.event.Event.TheVariants as event
use Rattle.core_machine.specs.declared.counts.Counts.{Counts}

-- the counts of a new router
abbrev pub uncounted : Counts
uncounted = record { ups = 0; items = 0; downs = 0; ticks = 0; starts = 0; batches = 0 }

-- one more event
abbrev pub with_event : Event → Counts → Counts
with_event (event.Up c p) n = record n { ups = n.ups + 1 }
with_event (event.Item c i) n = record n { items = n.items + 1 }
with_event (event.Down c) n = record n { downs = n.downs + 1 }
with_event (event.Tick ms) n = record n { ticks = n.ticks + 1 }
with_event event.Start n = record n { starts = n.starts + 1 }

-- one more batch
abbrev pub with_batch : Counts → Counts
with_batch n = record n { batches = n.batches + 1 }
