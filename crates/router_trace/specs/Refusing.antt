-- Which events are refused, and which number a new connection may have.
use Rattle.std.specs.Prelude.{ℕ, Bool, true, false, not, nat_lt, nat_le, Option, Some, None}
use Rattle.router_trace.specs.declared.event.Event.{Event}
use Rattle.router_trace.specs.declared.event.Event.TheVariants as event
use Rattle.router_trace.specs.Trace.{Trace, newest}
use Rattle.router_trace.specs.Connection.{conn, is_live}

-- a number is not above the newest
abbrev pub reaches : ℕ → Option ℕ → Bool
reaches c None = false
reaches c (Some last) = nat_le c last

-- a number is above the newest
abbrev pub rises : ℕ → Option ℕ → Bool
rises c None = true
rises c (Some last) = nat_lt last c

-- an event is refused: an Up whose number isn't above the newest, or an event of a connection that isn't live
abbrev pub refuses : Trace → Event → Bool
refuses t (event.Up c p) = not (rises c.0 (newest t))
refuses t (event.Item c i) = not (is_live (conn t c.0))
refuses t (event.Down c) = not (is_live (conn t c.0))
refuses t _ = false

-- the event reports the loss of a connection
abbrev pub is_loss : Event → Bool
is_loss (event.Down c) = true
is_loss _ = false
