-- What a run shows: an entry for each event, with its acts, then one for each item that it put out; and an entry for each take.
use Rattle.std.specs.Prelude.{◌≡◌, ◌&&◌, ◌++◌, ◌∷◌, ℕ, zero, suc, Bool, nat_lt, List, [], drop, length, map, flat_map, Option, Some, None}
use Rattle.amqp_model.specs.ItemSpelling.{item_spelling}
use Rattle.amqp_model.specs.declared.item.Item.{Item}
use Rattle.book_model.specs.declared.act.Act.{Act}
use Rattle.router_trace.specs.declared.event.ConnectionId.{ConnectionId}
use Rattle.router_trace.specs.declared.event.Event.{Event}
use Rattle.router_trace.specs.declared.event.Event.TheVariants as event
use Rattle.router_trace.specs.Trace.{Trace, Step}
use Rattle.router_trace.specs.Connection.{conn, is_ready}
use Rattle.core_machine.specs.Meaning.{IsLeast}
use Rattle.core_machine.specs.Moves.{Move, handles, takes, items_of, took_one, waiting_of}
use Rattle.core_player.specs.declared.entry.Came.{Came}
use Rattle.core_player.specs.declared.entry.Came.TheVariants as came
use Rattle.core_player.specs.declared.entry.Entry.{Entry}
use Rattle.core_player.specs.declared.entry.Entry.TheVariants as entry

-- what comes with an event
abbrev pub came_of : Event → Came
came_of (event.Up c p) = came.Up c p
came_of (event.Item c i) = came.Item c (item_spelling i)
came_of (event.Down c) = came.Down c
came_of (event.Tick ms) = came.Tick ms
came_of event.Start = came.Start

-- the entry of an event that did these acts
abbrev pub event_entry : Event → List Act → Entry
event_entry e acts = entry.Event (came_of e) acts

-- the numbers that pass a test, from above this one on, the lowest first
abbrev pub above : Option ℕ → (ℕ → Bool) → ℕ → Bool
above None passes = passes
above (Some low) passes = λ n. nat_lt low n && passes n

abbrev pub AreAll : (ℕ → Bool) → Option ℕ → List ℕ → Type 0
AreAll passes low [] = IsLeast (above low passes) None
AreAll passes low (n ∷ ns) = IsLeast (above low passes) (Some n) × AreAll passes (Some n) ns

-- the items that wait in an outbox behind so many
abbrev pub out_entry : ℕ → Item → Entry
out_entry c i = entry.Out (record { 0 = c }) (item_spelling i)

abbrev pub outs_behind : (ℕ → ℕ) → Trace → ℕ → List Entry
outs_behind lengths u c = map (out_entry c) (drop (lengths c) (waiting_of (conn u c)))

-- how many items wait in an outbox
abbrev pub waits : Trace → ℕ → ℕ
waits t c = length (waiting_of (conn t c))

-- the items that an event put out between two traces, by connection, the lowest first: in each outbox those behind what waited there before
abbrev pub PutsBehind : (ℕ → ℕ) → Trace → List Entry → Type 0
PutsBehind lengths u es = (cs : List ℕ) × AreAll (λ c. is_ready (conn u c)) None cs × (es ≡ flat_map (outs_behind lengths u) cs)

abbrev pub PutsOut : Trace → Trace → List Entry → Type 0
PutsOut t u es = PutsBehind (waits t) u es

-- the entry of a take: none where no item was there to take
abbrev pub took_entry : ConnectionId → ℕ → List Entry
took_entry c zero = []
took_entry c (suc n) = entry.Took c (suc n) ∷ []

-- What moves show from a trace on. What an event does to a trace is a parameter, and which acts it does to the book.
abbrev pub Shows : (Trace → Step → Trace) → (Trace → Event → List Act) → List Move → Trace → List Entry → Type 0
Shows next acts [] t es = es ≡ []
Shows next acts (handles s ∷ ms) t es =
    (outs : List Entry) × (rest : List Entry) × PutsOut t (next t s) outs × Shows next acts ms (next t s) rest
    × (es ≡ event_entry s.event (acts t s.event) ∷ outs ++ rest)
Shows next acts (takes x ∷ ms) t es =
    (rest : List Entry) × Shows next acts ms (took_one x t) rest × (es ≡ took_entry x.conn (length (items_of x t)) ++ rest)
