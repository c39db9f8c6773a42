-- What an event does to the book of durable deliveries: its acts, and the book and the journal of a trace.
use Rattle.std.specs.Prelude.{ℕ, Bool, true, false, List, [], ◌∷◌, Option, Some, None}
use Rattle.amqp_model.specs.declared.item.Item.{Item}
use Rattle.amqp_conn.specs.declared.conn.Conn.{Conn}
use Rattle.book_model.specs.declared.act.Act.{Act}
use Rattle.book_model.specs.Book.{BookView, empty_book, effects}
use Rattle.journal_store.specs.Acting.{event_acts as settled_acts}
use Rattle.journal_store.specs.Lost.{start_acts}
use Rattle.journal_store.specs.Store.{batches_after, exceeds}
use Rattle.router_trace.specs.declared.event.Event.{Event}
use Rattle.router_trace.specs.declared.event.Event.TheVariants as event
use Rattle.router_trace.specs.Trace.{Trace, Did, Out, Took, Bound, Booked, Routed, Began}
use Rattle.router_trace.specs.Connection.{standing, found, due}
use Rattle.reply_rows.specs.Booking.{answer_at}
use Rattle.reply_rows.specs.declared.answer.Answer.{Answer}
use Rattle.reply_rows.specs.declared.answer.Answer.TheVariants.{Nothing}
use Rattle.reply_rows.specs.Admitting.{admits, event_admission}
use Rattle.reply_rows.specs.Deciding.{decided, forgotten, terminus_of_event}

-- The answer to an event's item, if the journal is full or not: nothing if its connection isn't live as the event finds it.
abbrev pub live_answer : Bool → BookView → Trace → ℕ → Item → Option Conn → Answer
live_answer full b t c i None = Nothing
live_answer full b t c i (Some p) = answer_at full b t c p i

abbrev pub event_answer : Bool → BookView → Trace → Event → Answer
event_answer full b t (event.Item c i) = live_answer full b t c.0 i (standing (found t (event.Item c i) c.0))
event_answer full b t _ = Nothing

-- What an event decides, forgets, makes or drops, by the answer to its item; a start decides the rows that have lost their consumers.
abbrev pub answer_acts : BookView → Trace → Event → Answer → List Act
answer_acts b t e answer = settled_acts b (decided b t e answer) (forgotten b t e answer) (terminus_of_event b t e answer)

abbrev pub planned_acts : Bool → BookView → Trace → Event → List Act
planned_acts full b t event.Start = start_acts b
planned_acts full b t e = answer_acts b t e (event_answer full b t e)

-- What it admits: nothing if the journal is full.
abbrev pub admitted_acts : Bool → BookView → Trace → Event → List Act
admitted_acts true b t e = []
admitted_acts false b t e = admits b (event_admission b t e (event_answer false b t e))

-- The acts of an event. One that has others admits no delivery.
abbrev pub or_admits : List Act → List Act → List Act
or_admits [] admitted = admitted
or_admits (act ∷ acts) admitted = act ∷ acts

abbrev pub event_acts : Bool → BookView → Trace → Event → List Act
event_acts full b t e = or_admits (planned_acts full b t e) (admitted_acts full b t e)

-- What a journal keeps: its book, and how many batches it has had.
pub record Journaled : Type 0 where
  pub book : BookView
  pub batches : ℕ

-- An event finds the journal full exactly if the acts that it would have cost more than nothing, and more than the room of the book.
abbrev pub finds_full : Journaled → Trace → Event → Bool
finds_full j t e = exceeds j.book (event_acts false j.book t e)

-- the journal after acts: they are done to the book and written as one batch
abbrev pub with_acts : Journaled → List Act → Journaled
with_acts j acts = record { book = effects j.book acts; batches = batches_after j.batches acts }

-- the journal in which a trace ends
abbrev pub journaled : Trace → Journaled
journaled [] = record { book = empty_book; batches = 0 }
journaled (Did s ∷ t) = journaled t
journaled (Out c i ∷ t) = journaled t
journaled (Took c n ∷ t) = journaled t
journaled (Bound b ∷ t) = journaled t
journaled (Booked acts full ∷ t) = with_acts (journaled t) acts
journaled (Routed passage ∷ t) = journaled t
journaled (Began g ∷ t) = record { book = g.book; batches = g.batches }

abbrev pub book_in : Trace → BookView
book_in t = (journaled t).book

-- The acts of an event after a trace, and the book after them; they stand before the event.
abbrev pub acts_of : Trace → Event → List Act
acts_of t e = event_acts (finds_full (journaled t) t e) (book_in t) t e

abbrev pub book_after_event : Trace → Event → BookView
book_after_event t e = effects (book_in t) (acts_of t e)

abbrev pub booked : Trace → Event → Trace
booked t e = Booked (acts_of t e) (due t e) ∷ t

-- The trace that an event finds, after its own acts: that before them; and these acts.
abbrev pub before_acts : Trace → Trace
before_acts (Booked acts full ∷ t) = t
before_acts t = t

abbrev pub found_acts : Trace → List Act
found_acts (Booked acts full ∷ t) = acts
found_acts t = []

abbrev pub found_journal : Trace → Journaled
found_journal t = journaled (before_acts t)

-- the book that an event finds, before its acts
abbrev pub book_found : Trace → BookView
book_found t = (found_journal t).book

-- whether an event finds the journal full
abbrev pub full_at : Trace → Event → Bool
full_at t e = finds_full (found_journal t) (before_acts t) e

-- the answer to an item on a live connection in this phase, and to an event's item, after the event's acts
abbrev pub answer_of : Trace → ℕ → Conn → Item → Answer
answer_of t c p i = answer_at (full_at t (event.Item (record { 0 = c }) i)) (found_journal t).book t c p i

abbrev pub answer_by : Trace → ℕ → Item → Option Conn → Answer
answer_by t c i None = Nothing
answer_by t c i (Some p) = answer_of t c p i

abbrev pub answer_to_event : Trace → Event → Answer
answer_to_event t (event.Item c i) = answer_by t c.0 i (standing (found t (event.Item c i) c.0))
answer_to_event t _ = Nothing
