-- When a player agrees with a script's scene.
use Rattle.std.specs.Prelude.{◌≡◌, ◌++◌, ℕ, Bool, true, false, is_none, if◌then◌else◌, List, [], Option, Some, None, option_map}
use Rattle.amqp_model.specs.declared.item.Item.{Item}
use Rattle.amqp_frames.specs.Cuts.{Cuts}
use Rattle.router_trace.specs.declared.event.ConnectionId.{ConnectionId}
use Rattle.core_door.specs.declared.door.Door.{Door as DoorState}
use Rattle.core_player.specs.declared.socket.Socket.{Socket}
use Rattle.std.specs.Ordering.{nat_cmp}
use Rattle.std.specs.BTreeMap.{get}
use Rattle.core_player.specs.declared.player.Player.{Player}
use Rattle.core_player.specs.declared.sockets.Parted.{Parted}
use Rattle.core_player.specs.declared.sockets.Parted.TheVariants as parted
use Rattle.router_trace.specs.declared.event.Event.TheVariants as event
use Rattle.core_player.specs.declared.line.Line.{Line}
use Rattle.route_table.specs.Settings.{Settings}
use Rattle.router_trace.specs.Configuration.{beginning}
use Rattle.router_trace.specs.Trace.{Beginning, Trace}
use Rattle.core_machine.specs.Turns.{is_started}
use Rattle.core_machine.specs.Meaning.{Meaning}
use Rattle.core_player.specs.Script.{Scene, Next, refused, say, hand, with_socket, stream_of, Reads}
use Rattle.core_player.specs.Recording.{Recorded}
use Rattle.core_player.specs.Telling.{TellsOf}

-- what counts of a connection's socket: its door, and the bytes that wait for the rest of an item, until its stream ended. What a
-- reader keeps behind that depends on the pieces in which the bytes came, and nothing reads it
pub record Look : Type 0 where
  pub door : Option DoorState
  pub stream : Option (List ℕ)

abbrev pub waiting : Bool → List ℕ → Option (List ℕ)
waiting true rest = None
waiting false rest = Some rest

abbrev pub look_at : Socket → Look
look_at k = record { door = k.door; stream = waiting k.reader.failed k.reader.rest }

abbrev pub seen : Option Socket → Option Look
seen o = option_map look_at o

-- a router's tables and its book are those of a trace, and its journal keeps that book
abbrev pub Agrees : {M : Type 0} → Meaning M → M → Trace → Type 0
Agrees m router t = m.fits router t × m.keeps router (m.book t)

-- its router is started
pub record Follows {M : Type 0} (m : Meaning M) (p : Player M) (s : Scene) : Type 0 where
  pub core : Agrees m p.core s.trace
  pub started : is_started s.trace ≡ true
  pub named : m.id p.core ≡ s.id
  pub config : p.config.now ≡ s.config
  pub last : p.newest ≡ s.last
  pub sockets : (c : ℕ) → seen (get nat_cmp p.sockets c) ≡ seen (s.sockets c)
  pub lines : p.lines.items ≡ s.lines

-- a player whose router is opened with a configuration, and not started yet
pub record Begun {M : Type 0} (m : Meaning M) (p : Player M) (config : Settings) (g : Beginning) : Type 0 where
  pub core : Agrees m p.core (beginning g)
  pub works : m.is_failed p.core ≡ false
  pub named : m.id p.core ≡ config.router_id
  pub config_is : p.config.now ≡ config
  pub last : p.newest ≡ None
  pub sockets : (c : ℕ) → get nat_cmp p.sockets c ≡ None
  pub lines : p.lines.items ≡ []

-- a player that knows with which fault its router failed, if it did, and whose lines tell of it; and that recorded what the router did
pub record Tells {M : Type 0} (m : Meaning M) (first : M) (p : Player M) : Type 0 where
  pub known : p.fault ≡ None → m.is_failed p.core ≡ false
  pub told : TellsOf p.fault p.lines.items
  pub recorded : Recorded m first p.core p.recorder

-- more lines, and nothing else that a scene shows
pub record Said {M : Type 0} (old new : Player M) (ls : List Line) : Type 0 where
  pub lines : new.lines.items ≡ old.lines.items ++ ls
  pub core : new.core ≡ old.core
  pub recorder : new.recorder ≡ old.recorder
  pub config : new.config ≡ old.config
  pub sockets : new.sockets ≡ old.sockets
  pub last : new.newest ≡ old.newest

-- bytes were read on a connection: what follows agrees with the script
abbrev pub IsReadOne : {M : Type 0} → Meaning M → ConnectionId → List ℕ → Scene → Socket → Bool → Player M → Option (List Item) → Type 0
IsReadOne m c bytes s k true p None = Follows m p s
IsReadOne m c bytes s k false p (Some items) = (ended : Bool) × (rest : List ℕ) × Cuts ended (k.reader.rest ++ bytes) items rest × Follows m p (with_socket c (Some (stream_of k rest ended)) s)
IsReadOne m c bytes s k _ p _ = ⊥

abbrev pub IsRead : {M : Type 0} → Meaning M → ConnectionId → List ℕ → Scene → Option Socket → Player M → Option (List Item) → Type 0
IsRead m c bytes s None p None = Follows m p s
IsRead m c bytes s None p (Some items) = ⊥
IsRead m c bytes s (Some k) p read = IsReadOne m c bytes s k k.reader.failed p read

-- bytes were read after others of the same step: where the player agreed with what those lead to, it agrees now with what both lead to
abbrev pub Continues : {M : Type 0} → Meaning M → ConnectionId → List ℕ → Player M → Player M → Type 0
Continues m c bytes old new =
    (s v : Scene) (k : Socket) (before : List ℕ) → s.sockets c.0 ≡ Some k → Reads m.next c before s k false v → Follows m old v → (u : Scene) × Reads m.next c (before ++ bytes) s k false u × Follows m new u

-- where a connection was when it was closed
abbrev pub PartsAt : Option Socket → Parted → Type 0
PartsAt None p = p ≡ parted.Closed
PartsAt (Some k) p = p ≡ (if is_none k.door then parted.Passed else parted.AtDoor)

-- the effect of this on the router and the lines
abbrev pub part_by : Next → ConnectionId → Parted → Scene → Scene
part_by next c parted.Closed s = say refused s
part_by next c parted.Passed s = hand next (event.Down c) s
part_by next c parted.AtDoor s = s
