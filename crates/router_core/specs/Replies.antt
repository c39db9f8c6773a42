-- The trace after an event.
use Rattle.std.specs.Prelude.{◌≡◌, ℕ, false, List, [], ◌∷◌}
use Rattle.router_trace.specs.declared.event.Event.{Event}
use Rattle.router_trace.specs.Trace.{Trace, Step, step_of}
use Rattle.router_reply.specs.Replies.{replied}
use Rattle.router_after.specs.After.{followed}
use Rattle.reply_rows.specs.Acts.{booked}
use Rattle.router_reply.specs.Resuming.{resumed}
use Rattle.core_machine.specs.Turns.{declines}

-- the event with all items put into outboxes: those of its rows, and, once the rows are bound that its attach takes up, those that follow
abbrev pub answered : List ℕ → Trace → Step → Trace
answered id t s = followed (resumed t s.event (replied id t s))

-- the acts of the event, and then the event with its items
abbrev pub handled : List ℕ → Trace → Step → Trace
handled id t s = answered id (booked t s.event) s

-- the trace u is t with the acts of the event, the event, and the items that it put into outboxes
pub record Replies (id : List ℕ) (t : Trace) (s : Step) (u : Trace) : Type 0 where
  pub answers : u ≡ handled id t s

-- the same of several events, one after another; and each of them is in turn where it comes
abbrev pub handled_all : List ℕ → Trace → List Event → Trace
handled_all id t [] = t
handled_all id t (e ∷ es) = handled_all id (handled id t (step_of e)) es

abbrev pub AllInTurn : List ℕ → Trace → List Event → Type 0
AllInTurn id t [] = Unit {0}
AllInTurn id t (e ∷ es) = (declines t e ≡ false) × AllInTurn id (handled id t (step_of e)) es
