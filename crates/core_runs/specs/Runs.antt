-- Groups of events, run one after another: the events of a group are handled one after another and written together, and after each group all outboxes
-- are emptied.
use Rattle.std.specs.Prelude.{◌≡◌, ◌⊎◌, ℕ, ◌+◌, true, false, List, [], ◌∷◌, ◌++◌, map, length, Vec}
use Rattle.std.specs.declared.alloc.Global.{Global}
use Rattle.amqp_model.specs.declared.item.Item.{Item}
use Rattle.router_trace.specs.declared.event.Event.{Event}
use Rattle.router_trace.specs.declared.event.ConnectionId.{ConnectionId}
use Rattle.router_trace.specs.Trace.{Trace, step_of}
use Rattle.router_trace.specs.Connection.{conn, is_ready}
use Rattle.core_machine.specs.Moves.{IsNext, Taking, items_of, took_one}
use Rattle.core_machine.specs.Turns.{declines}
use Rattle.router_core.specs.Replies.{Replies}
use Rattle.core_runs.specs.declared.driving.Sent.{Sent}

-- takes, one after another: the trace after them, and the items with their connection and the group that they follow
abbrev pub took_all : List Taking → Trace → Trace
took_all [] t = t
took_all (x ∷ xs) t = took_all xs (took_one x t)

abbrev pub as_sent : ℕ → ConnectionId → Item → Sent
as_sent place c i = record { group = place; conn = c; item = i }

abbrev pub sent : ℕ → List Taking → Trace → List Sent
sent place [] t = []
sent place (x ∷ xs) t = map (as_sent place x.conn) (items_of x t) ++ sent place xs (took_one x t)

-- takes, each of them the next in this sense
abbrev pub InTurn : List Taking → Trace → Type 0
InTurn [] t = Unit {0}
InTurn (x ∷ xs) t = IsNext t x × InTurn xs (took_one x t)

-- u is t after takes of these items, in turn, after which every outbox is empty
pub record Emptied (place : ℕ) (t : Trace) (ys : List Sent) (u : Trace) : Type 0 where
  pub takes : List Taking
  pub turns : InTurn takes t
  pub trace : u ≡ took_all takes t
  pub items : ys ≡ sent place takes t
  pub empty : (c : ℕ) → is_ready (conn u c) ≡ false

-- an event is declined, and isn't in the trace, or its replies come after it
abbrev pub MayStep : List ℕ → Trace → Event → Trace → Type 0
MayStep id t e u = ((declines t e ≡ true) × (u ≡ t)) ⊎ ((declines t e ≡ false) × Replies id t (step_of e) u)

-- the same of several events, one after another
abbrev pub MaySteps : List ℕ → Trace → List Event → Trace → Type 0
MaySteps id t [] u = u ≡ t
MaySteps id t (e ∷ es) u = (mid : Trace) × MayStep id t e mid × MaySteps id mid es u

-- a group, and then the outboxes emptied
pub record Steps (id : List ℕ) (place : ℕ) (t : Trace) (es : List Event) (ys : List Sent) (u : Trace) : Type 0 where
  pub behind : Trace
  pub events : MaySteps id t es behind
  pub emptied : Emptied place behind ys u

-- the events of these groups
abbrev pub events_of : List (Vec Event Global) → List (List Event)
events_of groups = map (λ (g : Vec Event Global). g.items) groups

-- u is t after these groups, of which the first has this index, and xs are the items taken
abbrev pub Run : List ℕ → ℕ → Trace → List (List Event) → List Sent → Trace → Type 0
Run id place t [] xs u = (u ≡ t) × (xs ≡ [])
Run id place t (es ∷ groups) xs u = (mid : Trace) × (ys : List Sent) × (zs : List Sent)
    × Steps id place t es ys mid × Run id (place + 1) mid groups zs u × (xs ≡ ys ++ zs)

-- the items taken after a group that met a fault: none if it wasn't handled and written, else those of the takes after it, in turn
abbrev pub Broken : List ℕ → ℕ → Trace → List Event → List Sent → Type 0
Broken id place t es ys = (ys ≡ []) ⊎ ((behind : Trace) × (takes : List Taking) × MaySteps id t es behind × InTurn takes behind × (ys ≡ sent place takes behind))

-- of these groups this many were handled, the next one met a fault, and xs are the items taken
pub record Stopped (id : List ℕ) (t : Trace) (groups : List (List Event)) (handled : ℕ) (xs : List Sent) : Type 0 where
  pub first : List (List Event)
  pub group : List Event
  pub rest : List (List Event)
  pub are : groups ≡ first ++ group ∷ rest
  pub count : handled ≡ length first
  pub mid : Trace
  pub before : List Sent
  pub run : Run id 0 t first before mid
  pub last : List Sent
  pub broken : Broken id handled mid group last
  pub items : xs ≡ before ++ last

-- a connection is ready
abbrev pub Waits : Trace → Type 0
Waits t = (c : ℕ) × (is_ready (conn t c) ≡ true)
