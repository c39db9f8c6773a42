-- The parts of a router's trace: events that were handled, with their replies, and takes; and what was received and sent
-- on a connection.
use Rattle.std.specs.Prelude.{◌≡◌, ◌==◌, ℕ, false, if◌then◌else◌, List, [], ◌∷◌, ◌++◌}
use Rattle.amqp_model.specs.declared.item.Item.{Item}
use Rattle.router_trace.specs.Trace.{Beginning}
use Rattle.router_trace.specs.declared.event.Event.{Event}
use Rattle.router_trace.specs.declared.event.Event.TheVariants as event
use Rattle.router_trace.specs.Routed.{passed_to, if_passed}
use Rattle.router_trace.specs.Trace.{Trace, Did, Out, Took, Bound, Booked, Routed, Began}
use Rattle.router_trace.specs.Configuration.{beginning}
use Rattle.router_trace.specs.Refusing.{refuses}
use Rattle.router_core.specs.Replies.{handled}
use Rattle.core_machine.specs.Moves.{Move, handles, takes, took_one}

-- u is t after these moves, one after another: no event is refused, its acts come before it and its replies after it
abbrev pub Goes : List ℕ → List Move → Trace → Trace → Type 0
Goes id [] t u = u ≡ t
Goes id (handles s ∷ ms) t u = (refuses t s.event ≡ false) × Goes id ms (handled id t s) u
Goes id (takes x ∷ ms) t u = Goes id ms (took_one x t) u

-- a trace of the router with this id, opened with this configuration
abbrev pub IsTrace : List ℕ → Beginning → Trace → Type 0
IsTrace id g u = (moves : List Move) × Goes id moves (beginning g) u

-- the items received on a connection, in order
abbrev pub with_came : Event → ℕ → List Item → List Item
with_came (event.Item d i) c is = if d.0 == c then is ++ i ∷ [] else is
with_came _ c is = is

abbrev pub ins : Trace → ℕ → List Item
ins [] c = []
ins (Did s ∷ t) c = with_came s.event c (ins t c)
ins (Out d i ∷ t) c = ins t c
ins (Took d n ∷ t) c = ins t c
ins (Bound b ∷ t) c = ins t c
ins (Booked acts full ∷ t) c = ins t c
ins (Routed passage ∷ t) c = ins t c
ins (Began g ∷ t) c = []

-- the items put out for a connection, in order
abbrev pub outs : Trace → ℕ → List Item
outs [] c = []
outs (Did s ∷ t) c = outs t c
outs (Out d i ∷ t) c = if d == c then outs t c ++ i ∷ [] else outs t c
outs (Took d n ∷ t) c = outs t c
outs (Bound b ∷ t) c = outs t c
outs (Booked acts full ∷ t) c = outs t c
outs (Routed passage ∷ t) c = if_passed (λ i is. is ++ i ∷ []) (passed_to passage c) (outs t c)
outs (Began g ∷ t) c = []
