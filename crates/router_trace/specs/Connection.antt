-- A connection in a trace (AMQP 1.0 part 2, section 2.4): its phase and its outbox.
use Rattle.std.specs.Prelude.{◌≡◌, ℕ, ◌+◌, Bool, true, false, not, if◌then◌else◌, ◌==◌, nat_eq, nat_lt, nat_le, is_some, is_none, List, [], ◌∷◌, ◌++◌, length, take, drop, filter, Option, Some, None, option_map, option_and_then}
use Rattle.std.specs.List.{list_any}
use Rattle.amqp_model.specs.declared.perf.Perf.{Perf}
use Rattle.amqp_model.specs.declared.perf.Perf.TheVariants as perf
use Rattle.amqp_model.specs.declared.item.Item.{Item}
use Rattle.amqp_model.specs.declared.item.Item.TheVariants as item
use Rattle.amqp_conn.specs.declared.conn.Conn.{Conn}
use Rattle.amqp_conn.specs.Phase.{with_header, with_open, over}
use Rattle.router_trace.specs.declared.event.Event.{Event}
use Rattle.router_trace.specs.declared.event.Event.TheVariants as event
use Rattle.router_trace.specs.Trace.{Did, Out, Took, Bound, Booked, Routed, Began, Trace, ups}
use Rattle.router_trace.specs.Routed.{passed_to}

-- a connection: whether its header and open are written and whether it is over, the items waiting in its outbox, and
-- how many have left it
pub record Connection : Type 0 where
  pub phase : Conn
  pub waiting : List Item
  pub taken : ℕ

-- the phase after a performative, and after an item, that the router wrote
abbrev pub after_perf : Perf → Conn → Conn
after_perf (perf.Open o) p = with_open p
after_perf (perf.Close c) p = over p
after_perf _ p = p

abbrev pub phase_after : Item → Conn → Conn
phase_after (item.Header id major minor revision) p = with_header p
phase_after (item.Frame sasl channel body payload) p = after_perf body p
phase_after _ p = p

-- one more item in the outbox
abbrev pub with_item : Item → Connection → Connection
with_item i v = record { phase = phase_after i v.phase; waiting = v.waiting ++ i ∷ []; taken = v.taken }

-- the same with an item that passes on a routed link, if there is one: no header, open or close does
abbrev pub with_passed : Option Item → Connection → Connection
with_passed None v = v
with_passed (Some i) v = record { phase = v.phase; waiting = v.waiting ++ i ∷ []; taken = v.taken }

-- the connection is over; the items in its outbox stay
abbrev pub ended : Connection → Connection
ended v = record { phase = over v.phase; waiting = v.waiting; taken = v.taken }

-- this many items have left the outbox
abbrev pub drained : ℕ → Connection → Connection
drained n v = record { phase = v.phase; waiting = drop n v.waiting; taken = v.taken + n }

-- a connection that is over is removed with the last item of its outbox
abbrev pub unless_empty : Connection → List Item → Option Connection
unless_empty v [] = None
unless_empty v (i ∷ is) = Some v

abbrev pub unless_gone : Connection → Option Connection
unless_gone v = if v.phase.closed then unless_empty v v.waiting else Some v

abbrev pub took : ℕ → Connection → Option Connection
took n v = unless_gone (drained n v)

-- a batch taken from an outbox: at most `most` of its first items, numbered on from those that left before; and whether the
-- connection is removed with them
pub record Batched (v : Connection) (most first : ℕ) (items : List Item) (ended : Bool) : Type 0 where
  pub numbered : first ≡ v.taken
  pub in_order : items ≡ take most v.waiting
  pub gone : ended ≡ is_none (took (length items) v)

-- a connection that comes up while this many others are live: beyond 64 it is over at once
abbrev pub fresh : ℕ → Connection
fresh live = record { phase = record { header = false; opened = false; closed = not (nat_lt live 64) }; waiting = []; taken = 0 }

-- the phase of a live connection
abbrev pub standing : Option Connection → Option Conn
standing None = None
standing (Some v) = if v.phase.closed then None else Some v.phase

abbrev pub is_live : Option Connection → Bool
is_live v = is_some (standing v)

-- a live connection's outbox holds 4,096 items or more
abbrev pub is_full : Option Connection → Bool
is_full None = false
is_full (Some v) = if v.phase.closed then false else nat_le 4096 (length v.waiting)

-- the connection is ready: an item is waiting, or it is over
abbrev pub is_item : List Item → Bool
is_item [] = false
is_item (i ∷ is) = true

abbrev pub is_ready : Option Connection → Bool
is_ready None = false
is_ready (Some v) = if v.phase.closed then true else is_item v.waiting

-- an event ends this connection because its outbox is full; not the connection whose loss it reports
abbrev pub is_due : Event → ℕ → Option Connection → Bool
is_due (event.Down d) c v = if d.0 == c then false else is_full v
is_due _ c v = is_full v

abbrev pub has : ℕ → List ℕ → Bool
has c ks = list_any (λ k. nat_eq k c) ks

-- of the connections that came up, with the state of each: those that the event ends first, the others as the event
-- finds them, and those that are live
abbrev pub due_of : Event → List ℕ → (ℕ → Option Connection) → List ℕ
due_of e ks known = filter (λ k. is_due e k (known k)) ks

abbrev pub unless_due : List ℕ → (ℕ → Option Connection) → ℕ → Option Connection
unless_due due known c = if has c due then option_map ended (known c) else known c

abbrev pub live_of : List ℕ → (ℕ → Option Connection) → List ℕ
live_of ks known = filter (λ k. is_live (known k)) ks

-- what an event itself does to a connection, while this many are live
abbrev pub at_event : Event → ℕ → ℕ → Option Connection → Option Connection
at_event (event.Up d p) c live v = if d.0 == c then Some (fresh live) else v
at_event (event.Down d) c live v = if d.0 == c then None else v
at_event _ c live v = v

-- the state of a connection; none before it comes up, after its loss, and once it is over and its last item has left
abbrev pub conn : Trace → ℕ → Option Connection
conn [] c = None
conn (Did s ∷ t) c =
    let found = unless_due (due_of s.event (ups t) (conn t)) (conn t)
    in at_event s.event c (length (live_of (ups t) found)) (found c)
conn (Out d i ∷ t) c = if d == c then option_map (with_item i) (conn t c) else conn t c
conn (Took d n ∷ t) c = if d == c then option_and_then (took n) (conn t c) else conn t c
conn (Bound b ∷ t) c = conn t c
conn (Booked acts full ∷ t) c = conn t c
conn (Routed passage ∷ t) c = option_map (with_passed (passed_to passage c)) (conn t c)
conn (Began g ∷ t) c = None

-- the connections that an event ends because their outboxes are full, by number
abbrev pub due : Trace → Event → List ℕ
due t e = due_of e (ups t) (conn t)

-- a connection as an event finds it: those with full outboxes are over
abbrev pub found : Trace → Event → ℕ → Option Connection
found t e c = unless_due (due t e) (conn t) c

-- the phase of the live connection of an event's item, before the event; none of another event
abbrev pub phase_before : Trace → Event → Option Conn
phase_before t (event.Item c i) = standing (conn t c.0)
phase_before t _ = None

-- the same as the event finds it: none if the event ended the connection first
abbrev pub phase_found : Trace → Event → Option Conn
phase_found t (event.Item c i) = standing (found t (event.Item c i) c.0)
phase_found t _ = None

-- the live connections, by number
abbrev pub live : Trace → List ℕ
live t = live_of (ups t) (conn t)
