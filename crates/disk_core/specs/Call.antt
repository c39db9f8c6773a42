-- The events of a record of calls.
use Rattle.std.specs.Prelude.{List, map, reverse}
use Rattle.disk_core.specs.declared.call.Call.{Call}
use Rattle.disk_core.specs.declared.call.Call.TheVariants as Calls
use Rattle.disk_core.specs.Event.{Event, Wrote, Shortened, Synced}

abbrev pub event_of : Call → Event
event_of (Calls.Wrote at bytes) = Wrote at bytes.items
event_of (Calls.Shortened len) = Shortened len
event_of Calls.Synced = Synced

-- the newest first
abbrev pub events_of : List Call → List Event
events_of calls = reverse (map event_of calls)
