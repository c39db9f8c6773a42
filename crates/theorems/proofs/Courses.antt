-- A script without its takes: the effect of events and doors alone.
use Rattle.std.proofs.Common.{◌≡◌, refl, ℕ, Bool, true, false, not, List, [], ◌∷◌, ◌++◌}
use Rattle.std.specs.Prelude.{◌==◌, Option, Some, None, is_some, option_map, if◌then◌else◌}
use Rattle.amqp_model.specs.declared.item.Item.{Item}
use Rattle.amqp_frames.proofs.Streams.{has_cut}
use Rattle.route_table.specs.Settings.{Settings}
use Rattle.router_trace.specs.declared.event.ConnectionId.{ConnectionId}
use Rattle.router_trace.specs.declared.event.PeerRole.{PeerRole}
use Rattle.router_trace.specs.declared.event.Event.{Event}
use Rattle.router_trace.specs.declared.event.Event.TheVariants as event
use Rattle.router_trace.specs.Trace.{Entry, newest, step_of}
use Rattle.router_trace.specs.Refusing.{rises}
use Rattle.core_door.specs.declared.door.Door.{Door as DoorState}
use Rattle.core_door.specs.Door.{Verdict, says, passes, ends, door, door_after}
use Rattle.theorems.proofs.Plain.{plain}
use Rattle.theorems.proofs.Takes.{plain_handled}
use Rattle.core_player.specs.declared.script.Step.{Step}
use Rattle.core_player.specs.declared.script.Step.TheVariants as step
use Rattle.core_player.specs.Listening.{door_for}

-- a connection: its door, and the bytes that wait for the rest of an item, until its stream ends
pub record Spot : Type 0 where
  pub door : Option DoorState
  pub stream : Option (List ℕ)

-- the state of a script, without its takes
pub record Course : Type 0 where
  pub id : List ℕ
  pub config : Settings
  pub trace : List Entry
  pub last : Option ℕ
  pub spots : ℕ → Option Spot

abbrev pub with_spot : ℕ → Option Spot → Course → Course
with_spot c k p = record { id = p.id; config = p.config; trace = p.trace; last = p.last; spots = λ n. if c == n then k else p.spots n }

abbrev pub on_trace : List Entry → Course → Course
on_trace t p = record { id = p.id; config = p.config; trace = t; last = p.last; spots = p.spots }

-- the stream of a connection is replaced
abbrev pub flowing : Option (List ℕ) → Spot → Spot
flowing st k = record { door = k.door; stream = st }

abbrev pub with_stream : ℕ → Option (List ℕ) → Course → Course
with_stream c st p = record { id = p.id; config = p.config; trace = p.trace; last = p.last; spots = λ n. if c == n then option_map (flowing st) (p.spots n) else p.spots n }

-- events
abbrev pub plain_refuses : List Entry → Event → Bool
plain_refuses x (event.Up c p) = not (rises c.0 (newest x))
plain_refuses x (event.Item c i) = not (is_some (plain x c.0))
plain_refuses x (event.Down c) = not (is_some (plain x c.0))
plain_refuses x _ = false

abbrev pub tell : Event → Course → Course
tell e p = if plain_refuses p.trace e then p else on_trace (plain_handled p.id p.trace (step_of e)) p

-- items
abbrev pub judge : ConnectionId → Item → Spot → DoorState → Course → Verdict → Course
judge c i k d p (says items) = with_spot c.0 (Some (record { door = Some (door_after d i); stream = k.stream })) p
judge c i k d p (passes user) =
    tell (event.Item c i) (tell (event.Up c (record { user = user; role = d.role })) (with_spot c.0 (Some (record { door = None; stream = k.stream })) p))
judge c i k d p (ends items) = with_spot c.0 None p

abbrev pub come_at : ConnectionId → Item → Spot → Course → Option DoorState → Course
come_at c i k p None = tell (event.Item c i) p
come_at c i k p (Some d) = judge c i k d p (door d i)

abbrev pub come_by : ConnectionId → Item → Course → Option Spot → Course
come_by c i p None = p
come_by c i p (Some k) = come_at c i k p k.door

abbrev pub come : ConnectionId → Item → Course → Course
come c i p = come_by c i p (p.spots c.0)

abbrev pub come_all : ConnectionId → List Item → Course → Course
come_all c [] p = p
come_all c (i ∷ is) p = come_all c is (come c i p)

-- bytes
abbrev pub kept : Bool → List ℕ → Option (List ℕ)
kept true rest = None
kept false rest = Some rest

abbrev pub stream_at : Option Spot → Option (List ℕ)
stream_at None = None
stream_at (Some k) = k.stream

abbrev pub take_in : ConnectionId → Bool → List Item → List ℕ → Course → Course
take_in c ended items rest p = come_all c items (with_stream c.0 (kept ended rest) p)

abbrev pub bytes_by : ConnectionId → List ℕ → Course → Option (List ℕ) → Course
bytes_by c bytes p None = p
bytes_by c bytes p (Some r) = take_in c (has_cut (r ++ bytes)).0 (has_cut (r ++ bytes)).1 (has_cut (r ++ bytes)).2 p

abbrev pub bytes_come : ConnectionId → List ℕ → Course → Course
bytes_come c bytes p = bytes_by c bytes p (stream_at (p.spots c.0))

-- steps
abbrev pub made_by : ConnectionId → PeerRole → Course → Course
made_by c role p = record { id = p.id; config = p.config; trace = p.trace; last = Some c.0; spots = λ n. if c.0 == n then Some (record { door = Some (door_for p.config role); stream = Some [] }) else p.spots n }

abbrev pub told_at : ConnectionId → Course → Option DoorState → Course
told_at c p None = tell (event.Down c) p
told_at c p (Some d) = p

abbrev pub lost_by : ConnectionId → Course → Option Spot → Course
lost_by c p None = p
lost_by c p (Some k) = told_at c (with_spot c.0 None p) k.door

abbrev pub moved_by : Step → Course → Course
moved_by (step.Up c role) p = if rises c.0 p.last then made_by c role p else p
moved_by (step.In c bytes) p = bytes_come c bytes p
moved_by (step.Down c) p = lost_by c p (p.spots c.0)
moved_by (step.Tick ms) p = tell (event.Tick ms) p
moved_by (step.Fuse calls) p = p

abbrev pub course : List Step → Course → Course
course [] p = p
course (x ∷ xs) p = course xs (moved_by x p)

-- tables of connections

abbrev pub with_spots : (ℕ → Option Spot) → Course → Course
with_spots f p = record { id = p.id; config = p.config; trace = p.trace; last = p.last; spots = f }

pub spots_same : (p : Course) (f g : ℕ → Option Spot) → ((n : ℕ) → f n ≡ g n) → with_spots f p ≡ with_spots g p
spots_same p f g h = λ j. with_spots (λ n. h n j) p

-- an event changes no connection
pub tell_cases : (G : Course → Type 0) (e : Event) (p : Course) → (plain_refuses p.trace e ≡ true → G p)
    → (plain_refuses p.trace e ≡ false → G (on_trace (plain_handled p.id p.trace (step_of e)) p)) → G (tell e p)
tell_cases G e p f g = pick (plain_refuses p.trace e) p (on_trace (plain_handled p.id p.trace (step_of e)) p) f g
  where
    pick : (b : Bool) (x y : Course) → (b ≡ true → G x) → (b ≡ false → G y) → G (if b then x else y)
    pick true x y f g = f refl
    pick false x y f g = g refl

pub tell_spots : (e : Event) (p : Course) (c : ℕ) → (tell e p).spots c ≡ p.spots c
tell_spots e p c = tell_cases (λ q. q.spots c ≡ p.spots c) e p (λ r. refl) (λ r. refl)
