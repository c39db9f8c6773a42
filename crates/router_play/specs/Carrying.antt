-- From bytes to bytes: the bytes sent on each connection of a script, for the bytes received on it.
use Rattle.std.specs.Prelude.{◌≡◌, ◌+◌, ℕ, Bool, true, false, ◌||◌, ◌==◌, if◌then◌else◌, List, [], ◌∷◌, ◌++◌, Option, Some, None}
use Rattle.amqp_model.specs.declared.item.Item.{Item}
use Rattle.amqp_frames.specs.Cuts.{Cuts}
use Rattle.amqp_model.specs.ItemSpelling.{item_spelling}
use Rattle.route_table.specs.Settings.{Settings}
use Rattle.router_play.specs.Script.{router_on, book_line, run_line}
use Rattle.router_trace.specs.declared.event.PeerRole.{PeerRole}
use Rattle.router_trace.specs.declared.event.PeerRole.TheVariants.{Normal}
use Rattle.router_trace.specs.declared.event.Event.{Event}
use Rattle.router_trace.specs.declared.event.Event.TheVariants as event
use Rattle.core_door.specs.declared.door.Door.{Door as DoorState}
use Rattle.core_player.specs.declared.line.Line.{Line}
use Rattle.core_player.specs.declared.line.Line.TheVariants as line
use Rattle.core_player.specs.declared.script.Step.{Step}
use Rattle.core_player.specs.declared.script.Step.TheVariants as step
use Rattle.router_trace.specs.Trace.{Trace, Did, Out, Took, Bound, Booked, Routed, Began}
use Rattle.router_trace.specs.Connection.{conn, is_live}
use Rattle.router_trace.specs.Refusing.{rises}
use Rattle.reply_rows.specs.Acts.{Journaled, journaled}
use Rattle.core_door.specs.Door.{Verdict, says, passes, ends, door, door_after}
use Rattle.router_core.specs.Moves.{IsTrace, ins, outs}
use Rattle.core_player.specs.Listening.{door_for}

-- the events report the loss of a connection
abbrev pub is_loss_of : Event → ℕ → Bool
is_loss_of (event.Down d) c = d.0 == c
is_loss_of _ c = false

abbrev pub was_lost : Trace → ℕ → Bool
was_lost [] c = false
was_lost (Did s ∷ t) c = is_loss_of s.event c || was_lost t c
was_lost (Out d i ∷ t) c = was_lost t c
was_lost (Took d n ∷ t) c = was_lost t c
was_lost (Bound b ∷ t) c = was_lost t c
was_lost (Booked acts full ∷ t) c = was_lost t c
was_lost (Routed passage ∷ t) c = was_lost t c
was_lost (Began g ∷ t) c = false

-- the steps after a connection is made: its number is above that of each connection made before
abbrev pub after_up : ℕ → Option ℕ → List Step → List Step
after_up c last [] = []
after_up c last (step.Up d role ∷ xs) =
    if rises d.0 last then (if d.0 == c then xs else after_up c (Some d.0) xs) else after_up c last xs
after_up c last (_ ∷ xs) = after_up c last xs

-- the role in which a connection is made, if it is
abbrev pub role_in : ℕ → Option ℕ → List Step → PeerRole
role_in c last [] = Normal
role_in c last (step.Up d role ∷ xs) =
    if rises d.0 last then (if d.0 == c then role else role_in c (Some d.0) xs) else role_in c last xs
role_in c last (_ ∷ xs) = role_in c last xs

-- the door of a connection of a script when it is made
abbrev pub door_in : Settings → ℕ → List Step → DoorState
door_in config c steps = door_for config (role_in c None steps)

-- the bytes that steps bring on a connection, until it is lost
abbrev pub bytes_of : ℕ → List Step → List ℕ
bytes_of c [] = []
bytes_of c (step.In d bytes ∷ xs) = if d.0 == c then bytes ++ bytes_of c xs else bytes_of c xs
bytes_of c (step.Down d ∷ xs) = if d.0 == c then [] else bytes_of c xs
bytes_of c (_ ∷ xs) = bytes_of c xs

-- the bytes received on a connection of a script, from its making to its loss
abbrev pub bytes_in : ℕ → List Step → List ℕ
bytes_in c steps = bytes_of c (after_up c None steps)

-- the bytes that lines send on a connection
abbrev pub bytes_out : ℕ → List Line → List ℕ
bytes_out c [] = []
bytes_out c (line.Out d bytes ∷ ls) = if d.0 == c then bytes ++ bytes_out c ls else bytes_out c ls
bytes_out c (_ ∷ ls) = bytes_out c ls

-- the canonical bytes of items
abbrev pub spelled : List Item → List ℕ
spelled [] = []
spelled (i ∷ is) = item_spelling i ++ spelled is

-- what the door answers to the items of a stream, until it lets the connection pass or ends it
abbrev pub said_by : Verdict → List Item → List Item
said_by (says xs) later = xs ++ later
said_by (passes user) later = []
said_by (ends xs) later = xs

abbrev pub door_says : DoorState → List Item → List Item
door_says d [] = []
door_says d (i ∷ is) = said_by (door d i) (door_says (door_after d i) is)

-- the items of a stream that are past the door: beginning with the one that it lets pass
abbrev pub passed_by : Verdict → List Item → List Item → List Item
passed_by (says xs) here later = later
passed_by (passes user) here later = here
passed_by (ends xs) here later = []

abbrev pub passed : DoorState → List Item → List Item
passed d [] = []
passed d (i ∷ is) = passed_by (door d i) (i ∷ is) (passed (door_after d i) is)

-- a list is the beginning of another
abbrev pub Begins : List Item → List Item → Type 0
Begins xs ys = (more : List Item) × (xs ++ more ≡ ys)

-- a connection at this door carries the stream received on it, if these lines were printed for this trace
pub record Carries (start : DoorState) (stream : List ℕ) (t : Trace) (lines : List Line) (c : ℕ) : Type 0 where
  pub ended : Bool
  pub items : List Item
  pub rest : List ℕ
  -- the bytes received are cut once, as one stream
  pub cut : Cuts ended stream items rest
  -- the items that the router receives are those past the door, up to the connection's end
  pub enters : Begins (ins t c) (passed start items)
  -- all of them, while the connection is live, and if it was live until it was lost
  pub whole : is_live (conn t c) ≡ true → ins t c ≡ passed start items
  pub until : was_lost t c ≡ true → ins t c ≡ passed start items
  -- the bytes sent are the canonical bytes of the door's answers, then of all that the router put out for it
  pub out : bytes_out c lines ≡ spelled (door_says start items) ++ spelled (outs t c)

-- runs, one after another, the first with this number: each has a trace of its own, of a router opened with the configuration on a journal that holds
-- this, or what the run before it left; its lines carry every connection; after them is the line of the last run's book, or this one if there is no run
abbrev pub RunsCarry : Settings → ℕ → Journaled → List (List Step) → Line → List Line → Type 0
RunsCarry config n j [] last lines = lines ≡ last ∷ []
RunsCarry config n j (steps ∷ runs) last lines = (t : Trace) × (mine : List Line) × (others : List Line)
    × IsTrace config.router_id (router_on config j) t × ((c : ℕ) → Carries (door_in config c steps) (bytes_in c steps) t mine c)
    × RunsCarry config (n + 1) (journaled t) runs (book_line (journaled t)) others × (lines ≡ run_line n ++ mine ++ others)
