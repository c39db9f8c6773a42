-- A script, step by step: what happens to its connections, the trace and the lines. What an event does to the trace is a parameter, `next`.
use Rattle.std.specs.Prelude.{◌≡◌, ℕ, Bool, true, false, ◌==◌, if◌then◌else◌, is_none, List, [], ◌∷◌, ◌++◌, map, length, Option, Some, None}
use Rattle.amqp_model.specs.declared.item.Item.{Item}
use Rattle.amqp_model.specs.ItemSpelling.{item_spelling}
use Rattle.amqp_frames.specs.Cuts.{Cuts}
use Rattle.route_table.specs.Settings.{Settings}
use Rattle.router_trace.specs.declared.event.ConnectionId.{ConnectionId}
use Rattle.router_trace.specs.declared.event.PeerRole.{PeerRole}
use Rattle.router_trace.specs.declared.event.Event.{Event}
use Rattle.router_trace.specs.declared.event.Event.TheVariants as event
use Rattle.router_trace.specs.Configuration.{beginning}
use Rattle.router_trace.specs.Trace.{Trace, Beginning, Step as Handled, step_of}
use Rattle.router_trace.specs.Connection.{Connection, conn, took, is_ready}
use Rattle.router_trace.specs.Refusing.{refuses, rises}
use Rattle.core_door.specs.declared.door.Door.{Door as DoorState}
use Rattle.core_door.specs.Door.{Verdict, says, passes, ends, door, door_after}
use Rattle.core_machine.specs.declared.fault.CoreFault.TheVariants.{NoConnection}
use Rattle.core_machine.specs.Moves.{IsNext, Taking, items_of, took_one}
use Rattle.core_player.specs.declared.line.Line.{Line}
use Rattle.core_player.specs.declared.line.Line.TheVariants as line
use Rattle.core_player.specs.declared.socket.Socket.{Socket}
use Rattle.core_player.specs.declared.script.Step.{Step}
use Rattle.core_player.specs.declared.script.Step.TheVariants as step
use Rattle.core_player.specs.Listening.{door_for}

-- the trace after an event, by the router's container-id
abbrev pub Next : Type 0
Next = List ℕ → Trace → Handled → Trace

-- the state of a script: the router's id, its configuration and its trace, the number of the last connection made, the
-- connections that are open (those at the door, and those that passed), and the lines so far
pub record Scene : Type 0 where
  pub id : List ℕ
  pub config : Settings
  pub trace : Trace
  pub last : Option ℕ
  pub sockets : ℕ → Option Socket
  pub lines : List Line

-- before the first step: the router is started
abbrev pub opening : Next → Settings → Beginning → Scene
opening next config g = record { id = config.router_id; config = config; trace = next config.router_id (beginning g) (step_of event.Start); last = None; sockets = λ c. None; lines = [] }

-- more lines
abbrev pub say_all : List Line → Scene → Scene
say_all ls s = record { id = s.id; config = s.config; trace = s.trace; last = s.last; sockets = s.sockets; lines = s.lines ++ ls }

abbrev pub say : Line → Scene → Scene
say l s = say_all (l ∷ []) s

-- the line of a refusal
abbrev pub refused : Line
refused = line.Failed NoConnection

-- the line of an outgoing item: its canonical encoding
abbrev pub out_line : ConnectionId → Item → Line
out_line c i = line.Out c (item_spelling i)

-- a connection's state is replaced; none if it is closed
abbrev pub with_socket : ConnectionId → Option Socket → Scene → Scene
with_socket c k s = record { id = s.id; config = s.config; trace = s.trace; last = s.last; sockets = λ n. if c.0 == n then k else s.sockets n; lines = s.lines }

-- the trace is replaced
abbrev pub with_trace : Trace → Scene → Scene
with_trace t s = record { id = s.id; config = s.config; trace = t; last = s.last; sockets = s.sockets; lines = s.lines }

-- an event is handed to the router: it is refused, or its replies come after it
abbrev pub hand : Next → Event → Scene → Scene
hand next e s = if refuses s.trace e then say refused s else with_trace (next s.id s.trace (step_of e)) s

-- the effect of the door's verdict on an item
abbrev pub judged_by : Next → ConnectionId → Item → Socket → DoorState → Scene → Verdict → Scene
judged_by next c i k d s (says items) =
    say_all (map (out_line c) items) (with_socket c (Some (record { door = Some (door_after d i); reader = k.reader })) s)
judged_by next c i k d s (passes user) =
    hand next (event.Item c i) (hand next (event.Up c (record { user = user; role = d.role })) (with_socket c (Some (record { door = None; reader = k.reader })) s))
judged_by next c i k d s (ends items) = say (line.End c) (say_all (map (out_line c) items) (with_socket c None s))

-- an item is received on a connection: it goes to the door, or to the router; it is dropped once the connection is closed
abbrev pub enter_at : Next → ConnectionId → Item → Socket → Scene → Option DoorState → Scene
enter_at next c i k s None = hand next (event.Item c i) s
enter_at next c i k s (Some d) = judged_by next c i k d s (door d i)

abbrev pub enter_by : Next → ConnectionId → Item → Scene → Option Socket → Scene
enter_by next c i s None = s
enter_by next c i s (Some k) = enter_at next c i k s k.door

abbrev pub enter : Next → ConnectionId → Item → Scene → Scene
enter next c i s = enter_by next c i s (s.sockets c.0)

abbrev pub enter_all : Next → ConnectionId → List Item → Scene → Scene
enter_all next c [] s = s
enter_all next c (i ∷ is) s = enter_all next c is (enter next c i s)

-- bytes are received on a connection: the items that the stream is cut into with them are handled; the bytes are refused if the
-- connection is closed or its stream ended with a faulty frame
abbrev pub stream_of : Socket → List ℕ → Bool → Socket
stream_of k rest ended = record { door = k.door; reader = record { rest = rest; failed = ended } }

abbrev pub Reads : Next → ConnectionId → List ℕ → Scene → Socket → Bool → Scene → Type 0
Reads next c bytes s k true u = u ≡ say refused s
Reads next c bytes s k false u = (ended : Bool) × (items : List Item) × (rest : List ℕ)
    × Cuts ended (k.reader.rest ++ bytes) items rest × (u ≡ enter_all next c items (with_socket c (Some (stream_of k rest ended)) s))

abbrev pub BytesCome : Next → ConnectionId → List ℕ → Scene → Option Socket → Scene → Type 0
BytesCome next c bytes s None u = u ≡ say refused s
BytesCome next c bytes s (Some k) u = Reads next c bytes s k k.reader.failed u

-- a connection is made
abbrev pub new_socket : DoorState → Socket
new_socket d = record { door = Some d; reader = record { rest = []; failed = false } }

abbrev pub made : ConnectionId → PeerRole → Scene → Scene
made c role s = record { id = s.id; config = s.config; trace = s.trace; last = Some c.0; sockets = λ n. if c.0 == n then Some (new_socket (door_for s.config role)) else s.sockets n; lines = s.lines }

abbrev pub make : ConnectionId → PeerRole → Scene → Scene
make c role s = if rises c.0 s.last then made c role s else say refused s

-- a connection is lost: the router is told of it if the connection passed the door
abbrev pub told : Next → ConnectionId → Scene → Option DoorState → Scene
told next c s None = hand next (event.Down c) s
told next c s (Some d) = s

abbrev pub lose_by : Next → ConnectionId → Scene → Option Socket → Scene
lose_by next c s None = say refused s
lose_by next c s (Some k) = told next c (with_socket c None s) k.door

abbrev pub lose : Next → ConnectionId → Scene → Scene
lose next c s = lose_by next c s (s.sockets c.0)

-- a step; a fuse shows nothing, unless the disk fails
abbrev pub Takes : Next → Step → Scene → Scene → Type 0
Takes next (step.Up c role) s u = u ≡ make c role s
Takes next (step.In c bytes) s u = BytesCome next c bytes s (s.sockets c.0) u
Takes next (step.Down c) s u = u ≡ lose next c s
Takes next (step.Tick ms) s u = u ≡ hand next (event.Tick ms) s
Takes next (step.Fuse calls) s u = u ≡ s

-- items taken from an outbox are sent; a connection that is over is closed with the last of them
abbrev pub is_last : ℕ → Option Connection → Bool
is_last n None = false
is_last n (Some v) = is_none (took n v)

abbrev pub close_if : Bool → ConnectionId → Scene → Scene
close_if false c s = s
close_if true c s = say (line.End c) (with_socket c None s)

abbrev pub take_one : Taking → Scene → Scene
take_one x s =
    close_if (is_last (length (items_of x s.trace)) (conn s.trace x.conn.0)) x.conn
    (say_all (map (out_line x.conn) (items_of x s.trace)) (with_trace (took_one x s.trace) s))

abbrev pub take_all : List Taking → Scene → Scene
take_all [] s = s
take_all (x ∷ xs) s = take_all xs (take_one x s)

-- takes in turn: 64 items of the lowest ready connection, and so on
abbrev pub AllInTurn : List Taking → Scene → Type 0
AllInTurn [] s = Unit {0}
AllInTurn (x ∷ xs) s = IsNext s.trace x × AllInTurn xs (take_one x s)

-- all outboxes are emptied, in turn
pub record Flushes (s u : Scene) : Type 0 where
  pub takes : List Taking
  pub turns : AllInTurn takes s
  pub scene : u ≡ take_all takes s
  pub empty : (c : ℕ) → is_ready (conn u.trace c) ≡ false

-- steps, one after another, the outboxes emptied after each
abbrev pub Plays : Next → List Step → Scene → Scene → Type 0
Plays next [] s u = u ≡ s
Plays next (x ∷ xs) s u = (mid : Scene) × (after : Scene) × Takes next x s mid × Flushes mid after × Plays next xs after u
