-- Messages of multicast addresses: each goes to every consumer.
use Rattle.std.specs.Prelude.{Bool, false, List, [], ◌∷◌, ℕ, Option, Some, None}
use Rattle.router_trace.specs.Configuration.{distribution, is_multicast}
use Rattle.router_trace.specs.Links.{Link}
use Rattle.router_trace.specs.Trace.{Trace, Bound}
use Rattle.router_trace.specs.declared.handle.Attachment.{Attachment}
use Rattle.state_messages.specs.Messages.{copy_to}

-- whether the messages of a link's address go to every consumer
abbrev pub goes_to_all : Trace → Option Link → Bool
goes_to_all t None = false
goes_to_all t (Some l) = is_multicast (distribution t l.address)

-- the trace with a copy of a message for each of these consumers, one after another
abbrev pub copied_to : ℕ → List ℕ → List Attachment → Trace → Trace
copied_to format payload [] u = u
copied_to format payload (at ∷ ats) u = copied_to format payload ats (Bound (copy_to u format payload at) ∷ u)
