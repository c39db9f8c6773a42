-- A script against the router: what its steps do to a scene, with what the router's events do to a trace (`handled`).
use Rattle.std.specs.Prelude.{◌≡◌, ◌==◌, ◌+◌, if◌then◌else◌, ℕ, Bool, List, [], ◌∷◌, ◌++◌, length, Option, None}
use Rattle.amqp_model.specs.declared.item.Item.{Item}
use Rattle.book_model.specs.Book.{empty_book}
use Rattle.route_table.specs.Places.{routing_of}
use Rattle.route_table.specs.Settings.{Settings}
use Rattle.router_trace.specs.declared.event.ConnectionId.{ConnectionId}
use Rattle.router_trace.specs.declared.event.Event.{Event}
use Rattle.router_trace.specs.declared.event.Event.TheVariants as event
use Rattle.router_trace.specs.Configuration.{beginning}
use Rattle.router_trace.specs.Trace.{Beginning, did}
use Rattle.reply_rows.specs.Acts.{Journaled, booked, journaled}
use Rattle.router_core.specs.Replies.{handled}
use Rattle.core_door.specs.declared.door.Door.{Door as DoorState}
use Rattle.core_door.specs.Door.{Verdict}
use Rattle.core_player.specs.declared.line.Line.{Line}
use Rattle.core_player.specs.declared.line.Line.TheVariants as line
use Rattle.core_player.specs.declared.socket.Socket.{Socket}
use Rattle.core_player.specs.declared.script.Step.{Step}
use Rattle.core_player.specs.Script as player
pub use Rattle.core_player.specs.Script.{Scene, say_all, say, refused, out_line, with_socket, with_trace, stream_of, new_socket, made, make, is_last, close_if, take_one, take_all, AllInTurn, Flushes}

-- a router with this configuration, on a journal that holds this
abbrev pub router_on : Settings → Journaled → Beginning
router_on config j = record { routing = routing_of config; book = j.book; batches = j.batches }

-- a new journal: it has no batch
abbrev pub new_journal : Journaled
new_journal = record { book = empty_book; batches = 0 }

abbrev pub new_router : Settings → Beginning
new_router config = router_on config new_journal

-- before the first step: the router is started. It knows no connection, so it puts nothing out; what it does to a book that knows some is
-- written
abbrev pub opening_on : Settings → Journaled → Scene
opening_on config j = record {
  id = config.router_id;
  config = config;
  trace = did event.Start ∷ booked (beginning (router_on config j)) event.Start;
  last = None;
  sockets = λ c. None;
  lines = [];
}

abbrev pub opening : Settings → Scene
opening config = opening_on config new_journal

-- an event is handed to the router: it is refused, or its replies come after it
abbrev pub hand : Event → Scene → Scene
hand e s = player.hand handled e s

-- the effect of the door's verdict on an item
abbrev pub judged_by : ConnectionId → Item → Socket → DoorState → Scene → Verdict → Scene
judged_by c i k d s v = player.judged_by handled c i k d s v

-- an item is received on a connection: it goes to the door, or to the router; it is dropped once the connection is closed
abbrev pub enter_at : ConnectionId → Item → Socket → Scene → Option DoorState → Scene
enter_at c i k s d = player.enter_at handled c i k s d

abbrev pub enter_by : ConnectionId → Item → Scene → Option Socket → Scene
enter_by c i s k = player.enter_by handled c i s k

abbrev pub enter : ConnectionId → Item → Scene → Scene
enter c i s = player.enter handled c i s

abbrev pub enter_all : ConnectionId → List Item → Scene → Scene
enter_all c is s = player.enter_all handled c is s

-- bytes are received on a connection: the items that the stream is cut into with them are handled; the bytes are refused if the
-- connection is closed or its stream ended with a faulty frame
abbrev pub Reads : ConnectionId → List ℕ → Scene → Socket → Bool → Scene → Type 0
Reads c bytes s k failed u = player.Reads handled c bytes s k failed u

abbrev pub BytesCome : ConnectionId → List ℕ → Scene → Option Socket → Scene → Type 0
BytesCome c bytes s k u = player.BytesCome handled c bytes s k u

-- a connection is lost: the router is told of it if the connection passed the door
abbrev pub told : ConnectionId → Scene → Option DoorState → Scene
told c s d = player.told handled c s d

abbrev pub lose_by : ConnectionId → Scene → Option Socket → Scene
lose_by c s k = player.lose_by handled c s k

abbrev pub lose : ConnectionId → Scene → Scene
lose c s = player.lose handled c s

-- a step
abbrev pub Takes : Step → Scene → Scene → Type 0
Takes x s u = player.Takes handled x s u

-- steps, one after another, the outboxes emptied after each
abbrev pub Plays : List Step → Scene → Scene → Type 0
Plays xs s u = player.Plays handled xs s u

-- the line of the book: how many rows and termini it has, and how many batches its journal; and that line where there was no router
abbrev pub book_line : Journaled → Line
book_line j = line.Book (length j.book.rows) (length j.book.termini) j.batches

abbrev pub no_book : Line
no_book = line.Book 0 0 0

-- the line of a run's number: the first has none
abbrev pub run_line : ℕ → List Line
run_line n = if n == 1 then [] else line.Run n ∷ []

-- The lines of runs, one after another, if no router fails. The first has this number, and its router is opened on a journal that holds this;
-- each other one is opened on what the trace of the run before it leaves, whatever the stop between them. After them is the line of the last
-- run's book, or this one if there is no run.
abbrev pub PlaysAll : Settings → ℕ → Journaled → List (List Step) → Line → List Line → Type 0
PlaysAll config n j [] last lines = lines ≡ last ∷ []
PlaysAll config n j (steps ∷ runs) last lines =
    (u : Scene) × (others : List Line) × Plays steps (opening_on config j) u
    × PlaysAll config (n + 1) (journaled u.trace) runs (book_line (journaled u.trace)) others × (lines ≡ run_line n ++ u.lines ++ others)
