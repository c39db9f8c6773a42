-- What holds of each item that was put out, and of each message that was bound, over the trace at that time: it depends on what happened
-- before it.
use Rattle.std.specs.Prelude.{ℕ, [], ◌∷◌}
use Rattle.amqp_model.specs.declared.item.Item.{Item}
use Rattle.router_trace.specs.declared.binding.Binding.{Binding}
use Rattle.router_trace.specs.Trace.{Trace, Did, Out, Took, Bound, Booked, Routed, Began}

abbrev pub EachOut : (Trace → ℕ → Item → Type 0) → Trace → Type 0
EachOut P [] = Unit {0}
EachOut P (Did s ∷ t) = EachOut P t
EachOut P (Out c i ∷ t) = P t c i × EachOut P t
EachOut P (Took c n ∷ t) = EachOut P t
EachOut P (Bound b ∷ t) = EachOut P t
EachOut P (Booked acts full ∷ t) = EachOut P t
EachOut P (Routed passage ∷ t) = EachOut P t
EachOut P (Began g ∷ t) = EachOut P t

abbrev pub EachBound : (Trace → Binding → Type 0) → Trace → Type 0
EachBound P [] = Unit {0}
EachBound P (Did s ∷ t) = EachBound P t
EachBound P (Out c i ∷ t) = EachBound P t
EachBound P (Took c n ∷ t) = EachBound P t
EachBound P (Bound b ∷ t) = P t b × EachBound P t
EachBound P (Booked acts full ∷ t) = EachBound P t
EachBound P (Routed passage ∷ t) = EachBound P t
EachBound P (Began g ∷ t) = EachBound P t
