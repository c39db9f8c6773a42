-- Who takes an item of an open connection, and what happens to the connection.
use Rattle.std.specs.Prelude.{◌≡◌, ◌==◌, ◌++◌, ℕ, Bool, true, false, if◌then◌else◌, map, List, Option, Some, None}
use Rattle.amqp_frames.specs.Cuts.{Cuts}
use Rattle.router_trace.specs.declared.event.ConnectionId.{ConnectionId}
use Rattle.router_trace.specs.declared.event.Event.TheVariants as event
use Rattle.core_player.specs.declared.line.Line.TheVariants as line
use Rattle.core_player.specs.Script.{Scene, Next, stream_of, hand, say, say_all, out_line}
use Rattle.amqp_model.specs.declared.item.Item.{Item}
use Rattle.core_door.specs.declared.door.Door.{Door as DoorState}
use Rattle.core_player.specs.declared.socket.Socket.{Socket}
use Rattle.core_player.specs.declared.socket.Asked.{Asked}
use Rattle.core_player.specs.declared.socket.Asked.TheVariants as asked
use Rattle.core_door.specs.Door.{Verdict, says, passes, ends, door, door_after}

-- the answer is the door's verdict
abbrev pub IsVerdict : Item → Socket → DoorState → Verdict → Socket → Asked → Type 0
IsVerdict i k d (says items) new (asked.Say ys) = (ys.items ≡ items) × (new ≡ record { door = Some (door_after d i); reader = k.reader })
IsVerdict i k d (passes user) new (asked.Pass peer) = (peer ≡ record { user = user; role = d.role }) × (new ≡ record { door = None; reader = k.reader })
IsVerdict i k d (ends items) new (asked.End ys) = ys.items ≡ items
IsVerdict i k d verdict new answer = ⊥

-- at the door its verdict, and past it the router
abbrev pub IsAskedAt : Item → Socket → Option DoorState → Socket → Asked → Type 0
IsAskedAt i k (Some d) new answer = IsVerdict i k d (door d i) new answer
IsAskedAt i k None new asked.Router = new ≡ k
IsAskedAt i k None new _ = ⊥

abbrev pub IsAsked : Item → Socket → Socket → Asked → Type 0
IsAsked i old new answer = IsAskedAt i old old.door new answer

-- the connection after the answer: it is closed at its end
abbrev pub behind : Asked → Socket → Option Socket
behind (asked.End ys) k = None
behind _ k = Some k

-- a table of open connections, and the same with one of them asked
abbrev pub AsksAt : ℕ → Item → (ℕ → Option Socket) → Option Socket → (ℕ → Option Socket) → Asked → Type 0
AsksAt c i old None new answer = (answer ≡ asked.Nobody) × ((n : ℕ) → new n ≡ old n)
AsksAt c i old (Some k) new answer = (after : Socket) × IsAsked i k after answer × ((n : ℕ) → new n ≡ (if c == n then behind answer after else old n))

-- bytes read: none if the stream ended, else the items of the cut
abbrev pub ReadsOne : List ℕ → Socket → Bool → Socket → Option (List Item) → Type 0
ReadsOne bytes k true after None = after ≡ k
ReadsOne bytes k false after (Some items) = (ended : Bool) × (rest : List ℕ) × Cuts ended (k.reader.rest ++ bytes) items rest × (after ≡ stream_of k rest ended)
ReadsOne bytes k _ after _ = ⊥

-- a table of open connections, and the same with bytes read on one of them
abbrev pub ReadsAt : ℕ → List ℕ → (ℕ → Option Socket) → Option Socket → (ℕ → Option Socket) → Option (List Item) → Type 0
ReadsAt c bytes old None new read = (read ≡ None) × ((n : ℕ) → new n ≡ old n)
ReadsAt c bytes old (Some k) new read = (after : Socket) × ReadsOne bytes k k.reader.failed after read × ((n : ℕ) → new n ≡ (if c == n then Some after else old n))

-- the effect of an answer on the router and the lines
abbrev pub follow : Next → ConnectionId → Item → Asked → Scene → Scene
follow next c i asked.Nobody s = s
follow next c i asked.Router s = hand next (event.Item c i) s
follow next c i (asked.Say ys) s = say_all (map (out_line c) ys.items) s
follow next c i (asked.Pass peer) s = hand next (event.Item c i) (hand next (event.Up c peer) s)
follow next c i (asked.End ys) s = say (line.End c) (say_all (map (out_line c) ys.items) s)
