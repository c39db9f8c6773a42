-- Steps with their bytes joined have the same effect.
use Rattle.std.proofs.Common.{◌≡◌, ◌∙◌, sym, ap, refl, subst, ℕ, Bool, true, false, List, [], ◌∷◌, ◌++◌}
use Rattle.std.specs.Prelude.{◌==◌, Option, Some, None, option_map, if◌then◌else◌}
use Rattle.std.proofs.lemmas.Bool.{eqb-true}
use Rattle.amqp_model.specs.declared.item.Item.{Item}
use Rattle.amqp_frames.specs.Cuts.{Cuts}
use Rattle.amqp_frames.specs.Frames.{front, more}
use Rattle.amqp_frames.proofs.Steps.{front_nothing}
use Rattle.amqp_frames.proofs.Streams.{HasCut, has_cut}
use Rattle.router_trace.specs.declared.event.ConnectionId.{ConnectionId}
use Rattle.router_trace.specs.declared.event.PeerRole.{PeerRole}
use Rattle.router_trace.specs.declared.event.Event.{Event}
use Rattle.router_trace.specs.declared.event.Event.TheVariants as event
use Rattle.router_trace.specs.Refusing.{rises}
use Rattle.core_door.specs.declared.door.Door.{Door as DoorState}
use Rattle.core_door.specs.Door.{Verdict, says, passes, ends, door, door_after}
use Rattle.core_player.specs.declared.script.Step.{Step}
use Rattle.core_player.specs.declared.script.Step.TheVariants as step
use Rattle.theorems.specs.Pieces.{in_front, with_bytes, joined}
use Rattle.state_connections.proofs.Lists.{by_test}
use Rattle.theorems.proofs.Courses.{Spot, Course, with_spot, flowing, with_stream, tell, judge, come_at, come_by, come, come_all, kept, stream_at, bytes_by, bytes_come, made_by, told_at, lost_by, moved_by, course, tell_spots}
use Rattle.theorems.proofs.Streaming.{two_pieces, no_piece}

-- what is waiting on each connection is less than an item
abbrev pub Less : Option (List ℕ) → Type 0
Less None = Unit {0}
Less (Some r) = front r ≡ more

abbrev pub Waits : Course → Type 0
Waits p = (c : ℕ) → Less (stream_at (p.spots c))

spot_waits : (c : ℕ) (k : Option Spot) (p : Course) → Less (stream_at k) → Waits p → Waits (with_spot c k p)
spot_waits c k p here waits n = by_test (c == n) (λ e. rw e here) (λ e. rw e (waits n))

tell_waits : (e : Event) (p : Course) → Waits p → Waits (tell e p)
tell_waits e p waits n = subst (λ (o : Option Spot). Less (stream_at o)) (sym (tell_spots e p n)) (waits n)

judge_waits : (c : ConnectionId) (i : Item) (k : Spot) (d : DoorState) (p : Course) → Less k.stream → Waits p → (v : Verdict) → Waits (judge c i k d p v)
judge_waits c i k d p here waits (says items) = spot_waits c.0 (Some (record { door = Some (door_after d i); stream = k.stream })) p here waits
judge_waits c i k d p here waits (passes user) =
    let inside : Course = with_spot c.0 (Some (record { door = None; stream = k.stream })) p
    in let up : Event = event.Up c (record { user = user; role = d.role })
    in tell_waits (event.Item c i) (tell up inside) (tell_waits up inside (spot_waits c.0 (Some (record { door = None; stream = k.stream })) p here waits))
judge_waits c i k d p here waits (ends items) = spot_waits c.0 None p tt waits

come_waits : (c : ConnectionId) (i : Item) (p : Course) → Waits p → (o : Option Spot) → Less (stream_at o) → Waits (come_by c i p o)
come_waits c i p waits None here = waits
come_waits c i p waits (Some k) here = by_door k.door
  where
    by_door : (d : Option DoorState) → Waits (come_at c i k p d)
    by_door None = tell_waits (event.Item c i) p waits
    by_door (Some d) = judge_waits c i k d p here waits (door d i)

come_all_waits : (c : ConnectionId) (is : List Item) (p : Course) → Waits p → Waits (come_all c is p)
come_all_waits c [] p waits = waits
come_all_waits c (i ∷ is) p waits = come_all_waits c is (come c i p) (come_waits c i p waits (p.spots c.0) (waits c.0))

cut_waits : (ended : Bool) (stream : List ℕ) (items : List Item) (rest : List ℕ) → Cuts ended stream items rest → Less (kept ended rest)
cut_waits true stream items rest cut = tt
cut_waits false stream items rest cut = cut.1

stream_waits : (c : ℕ) (st : Option (List ℕ)) (p : Course) → Less st → Waits p → Waits (with_stream c st p)
stream_waits c st p here waits n = by_test (c == n) (λ e. rw e (at (p.spots n))) (λ e. rw e (waits n))
  where
    at : (o : Option Spot) → Less (stream_at (option_map (flowing st) o))
    at None = tt
    at (Some k) = here

bytes_waits : (c : ConnectionId) (bytes : List ℕ) (p : Course) → Waits p → (o : Option (List ℕ)) → Waits (bytes_by c bytes p o)
bytes_waits c bytes p waits None = waits
bytes_waits c bytes p waits (Some r) =
    let k : HasCut (r ++ bytes) = has_cut (r ++ bytes)
    in come_all_waits c k.1 (with_stream c.0 (kept k.0 k.2) p) (stream_waits c.0 (kept k.0 k.2) p (cut_waits k.0 (r ++ bytes) k.1 k.2 k.3) waits)

made_waits : (c : ConnectionId) (role : PeerRole) (p : Course) → Waits p → Waits (made_by c role p)
made_waits c role p waits n = by_test (c.0 == n) (λ e. rw e (front_nothing [] refl)) (λ e. rw e (waits n))

moved_waits : (x : Step) (p : Course) → Waits p → Waits (moved_by x p)
moved_waits (step.Up c role) p waits = by_number (rises c.0 p.last)
  where
    by_number : (b : Bool) → Waits (if b then made_by c role p else p)
    by_number true = made_waits c role p waits
    by_number false = waits
moved_waits (step.In c bytes) p waits = bytes_waits c bytes p waits (stream_at (p.spots c.0))
moved_waits (step.Down c) p waits = by_spot (p.spots c.0)
  where
    by_door : (d : Option DoorState) → Waits (told_at c (with_spot c.0 None p) d)
    by_door None = tell_waits (event.Down c) (with_spot c.0 None p) (spot_waits c.0 None p tt waits)
    by_door (Some d) = spot_waits c.0 None p tt waits

    by_spot : (o : Option Spot) → Waits (lost_by c p o)
    by_spot None = waits
    by_spot (Some k) = by_door k.door
moved_waits (step.Tick ms) p waits = tell_waits (event.Tick ms) p waits
moved_waits (step.Fuse calls) p waits = waits

-- Joined steps have the same effect.

pub same_id : (c d : ConnectionId) → c.0 ≡ d.0 → c ≡ d
same_id c d e = λ j. record { 0 = e j }

front_course : (c : ConnectionId) (bytes : List ℕ) (xs : List Step) (p : Course) → course (in_front c bytes xs) p ≡ course xs (bytes_come c bytes p)
front_course c bytes [] p = refl
front_course c bytes (step.In d others ∷ xs) p =
    by_test (c.0 == d.0)
    (λ e. let is : c ≡ d = same_id c d (eqb-true c.0 d.0 e)
    in rw e (ap (course xs) (two_pieces c bytes others p ∙ ap (λ (x : ConnectionId). bytes_come x others (bytes_come c bytes p)) is)))
    (λ e. rw e refl)
front_course c bytes (step.Up d role ∷ xs) p = refl
front_course c bytes (step.Down d ∷ xs) p = refl
front_course c bytes (step.Tick ms ∷ xs) p = refl
front_course c bytes (step.Fuse calls ∷ xs) p = refl

with_course : (c : ConnectionId) (bytes : List ℕ) (xs : List Step) (p : Course) → Waits p → course (with_bytes c bytes xs) p ≡ course xs (bytes_come c bytes p)
with_course c [] xs p waits = ap (course xs) (sym (no_piece c p (λ r is. subst (λ (o : Option (List ℕ)). Less o) is (waits c.0))))
with_course c (b ∷ bs) xs p waits = front_course c (b ∷ bs) xs p

pub joined_course : (xs : List Step) (p : Course) → Waits p → course (joined xs) p ≡ course xs p
joined_course [] p waits = refl
joined_course (step.In c bytes ∷ xs) p waits =
    with_course c bytes (joined xs) p waits ∙ joined_course xs (bytes_come c bytes p) (moved_waits (step.In c bytes) p waits)
joined_course (step.Up c role ∷ xs) p waits = joined_course xs (moved_by (step.Up c role) p) (moved_waits (step.Up c role) p waits)
joined_course (step.Down c ∷ xs) p waits = joined_course xs (moved_by (step.Down c) p) (moved_waits (step.Down c) p waits)
joined_course (step.Tick ms ∷ xs) p waits = joined_course xs (moved_by (step.Tick ms) p) (moved_waits (step.Tick ms) p waits)
joined_course (step.Fuse calls ∷ xs) p waits = joined_course xs p waits
