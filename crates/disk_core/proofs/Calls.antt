-- How the events of a record grow.
use Rattle.std.proofs.Common.{◌≡◌, List, [], ◌∷◌, ◌++◌, ◌∙◌, ap}
use Rattle.std.proofs.lemmas.List.{map-append, reverse-append}
use Rattle.std.specs.Prelude.{map, reverse}
use Rattle.disk_core.specs.declared.call.Call.{Call}
use Rattle.disk_core.specs.Call.{event_of, events_of}

pub events_push : (calls : List Call) (call : Call) → events_of (calls ++ call ∷ []) ≡ event_of call ∷ events_of calls
events_push calls call = ap reverse (map-append event_of calls (call ∷ [])) ∙ reverse-append (map event_of calls) (event_of call ∷ [])
