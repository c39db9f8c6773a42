-- A trace: what happened, as a list of entries, the newest first. All definitions search it; the router keeps none of it.
use Rattle.std.specs.Prelude.{◌≡◌, ℕ, Bool, true, false, List, [], ◌∷◌, ◌++◌, map, Option, Some, None}
use Rattle.amqp_model.specs.declared.item.Item.{Item}
use Rattle.book_model.specs.declared.act.Act.{Act}
use Rattle.book_model.specs.Book.{BookView}
use Rattle.route_table.specs.Places.{Routing}
use Rattle.router_trace.specs.Routed.{Passage}
use Rattle.router_trace.specs.declared.event.Event.{Event}
use Rattle.router_trace.specs.declared.outgoing.Outgoing.{Outgoing}
use Rattle.router_trace.specs.declared.binding.Binding.{Binding}
use Rattle.router_trace.specs.declared.event.Event.TheVariants as event

-- what an event's entry holds
pub record Step : Type 0 where
  pub event : Event

-- the step of an event
abbrev pub step_of : Event → Step
step_of e = record { event = e }

-- an item for the outbox of a connection
pub record Put : Type 0 where
  pub conn : ℕ
  pub item : Item

-- what a router begins with: how its configuration shares addresses, the book that its journal opened to, and how many batches
-- that had then
pub record Beginning : Type 0 where
  pub routing : Routing
  pub book : BookView
  pub batches : ℕ

pub data Entry : Type 0 where
  -- an event was handled
  Did : (step : Step) → Entry
  -- an item was put into the outbox of a connection
  Out : (conn : ℕ) (item : Item) → Entry
  -- `count` items left the outbox of a connection
  Took : (conn : ℕ) (count : ℕ) → Entry
  -- a message was bound to a consumer's link; no item says so
  Bound : (binding : Binding) → Entry
  -- the event that comes next does these acts to the book; they are written to the journal as one batch, if there are any. Before
  -- all else it ends these connections, because their outboxes are full
  Booked : (acts : List Act) (full : List ℕ) → Entry
  -- something became of a routed link
  Routed : (passage : Passage) → Entry
  -- the router was opened
  Began : (beginning : Beginning) → Entry

abbrev pub Trace : Type 0
Trace = List Entry

-- entries of one run: the router isn't opened anew among them
abbrev pub is_opening : Entry → Bool
is_opening (Began g) = true
is_opening _ = false

abbrev pub IsOneRun : List Entry → Type 0
IsOneRun [] = Unit {0}
IsOneRun (e ∷ es) = (is_opening e ≡ false) × IsOneRun es

-- the entry of an event
abbrev pub did : Event → Entry
did e = Did (step_of e)

-- these items put into outboxes, in this order
abbrev pub goes : List Put → Trace → Trace
goes [] t = t
goes (p ∷ ps) t = goes ps (Out p.conn p.item ∷ t)

-- an outgoing item
abbrev pub put_of : Outgoing → Put
put_of x = record { conn = x.conn.0; item = x.item }

abbrev pub puts_of : List Outgoing → List Put
puts_of xs = map put_of xs

-- these items for one connection
abbrev pub each_to : ℕ → List Item → List Put
each_to c [] = []
each_to c (i ∷ is) = record { conn = c; item = i } ∷ each_to c is

abbrev pub puts : ℕ → List Item → Trace → Trace
puts c is t = goes (each_to c is) t

-- the numbers of the connections that came up, in the order of the events
abbrev pub with_up : Event → List ℕ → List ℕ
with_up (event.Up c p) ks = ks ++ c.0 ∷ []
with_up _ ks = ks

abbrev pub ups : Trace → List ℕ
ups [] = []
ups (Did s ∷ t) = with_up s.event (ups t)
ups (Out c i ∷ t) = ups t
ups (Took c n ∷ t) = ups t
ups (Bound b ∷ t) = ups t
ups (Booked acts full ∷ t) = ups t
ups (Routed passage ∷ t) = ups t
ups (Began g ∷ t) = []

-- the number of the last connection that came up
abbrev pub newer : Event → Option ℕ → Option ℕ
newer (event.Up c p) last = Some c.0
newer _ last = last

abbrev pub newest : Trace → Option ℕ
newest [] = None
newest (Did s ∷ t) = newer s.event (newest t)
newest (Out c i ∷ t) = newest t
newest (Took c n ∷ t) = newest t
newest (Bound b ∷ t) = newest t
newest (Booked acts full ∷ t) = newest t
newest (Routed passage ∷ t) = newest t
newest (Began g ∷ t) = None
