-- Which events come out of turn.
use Rattle.std.specs.Prelude.{Bool, true, false, not, ◌||◌, [], ◌∷◌}
use Rattle.router_trace.specs.declared.event.Event.{Event}
use Rattle.router_trace.specs.declared.event.Event.TheVariants as event
use Rattle.router_trace.specs.Trace.{Trace, Did, Out, Took, Bound, Booked, Routed, Began}
use Rattle.router_trace.specs.Refusing.{refuses}

-- Start comes first, and once.
abbrev pub is_start : Event → Bool
is_start event.Start = true
is_start _ = false

abbrev pub is_started : Trace → Bool
is_started [] = false
is_started (Did s ∷ t) = is_start s.event || is_started t
is_started (Out c i ∷ t) = is_started t
is_started (Took c n ∷ t) = is_started t
is_started (Bound x ∷ t) = is_started t
is_started (Booked acts full ∷ t) = is_started t
is_started (Routed passage ∷ t) = is_started t
is_started (Began g ∷ t) = false

abbrev pub is_out_of_turn : Trace → Event → Bool
is_out_of_turn t event.Start = is_started t
is_out_of_turn t _ = not (is_started t)

-- an event isn't handled: it comes out of turn, or the trace refuses it
abbrev pub declines : Trace → Event → Bool
declines t e = is_out_of_turn t e || refuses t e
