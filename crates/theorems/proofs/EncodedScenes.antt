-- In a script of bytes each frame that comes is encoded, and the router handles its events in turn.
use Rattle.std.proofs.Common.{◌≡◌, ◌∙◌, sym, ap, refl, subst, ℕ, Bool, true, false, not, List, [], ◌∷◌, ◌++◌}
use Rattle.std.specs.Prelude.{◌==◌, ◌||◌, map, length, Option, Some, None, if◌then◌else◌}
use Rattle.amqp_model.specs.declared.item.Item.{Item}
use Rattle.router_trace.specs.declared.binding.Binding.{Binding}
use Rattle.router_trace.specs.declared.condition.Condition.TheVariants.{ResourceLimitExceeded}
use Rattle.router_trace.specs.declared.event.ConnectionId.{ConnectionId}
use Rattle.router_trace.specs.declared.event.PeerRole.{PeerRole}
use Rattle.router_trace.specs.declared.event.Event.{Event}
use Rattle.router_trace.specs.declared.event.Event.TheVariants as event
use Rattle.router_trace.specs.Connection.{conn, due}
use Rattle.router_trace.specs.Refusing.{refuses, rises}
use Rattle.router_trace.specs.Trace.{Trace, Did, Out, Put, Step as AStep, step_of, goes, puts, each_to}
use Rattle.state_messages.specs.Messages.{with_bound}
use Rattle.reply_rows.specs.Acts.{booked}
use Rattle.router_reply.specs.Replies.{closing_of, ends, heard, bound_by, own_row, replied}
use Rattle.router_reply.specs.Resuming.{resumed}
use Rattle.core_door.specs.declared.door.Door.{Door as DoorState}
use Rattle.core_door.specs.Door.{Verdict, says, passes, ends as ends_it, door, door_after}
use Rattle.core_machine.specs.Moves.{Taking, handles, takes, items_of, took_one}
use Rattle.core_machine.specs.Turns.{is_out_of_turn, is_started, declines}
use Rattle.core_player.specs.Listening.{door_for}
use Rattle.core_player.specs.declared.line.Line.{Line}
use Rattle.core_player.specs.declared.line.Line.TheVariants as line
use Rattle.core_player.specs.declared.socket.Socket.{Socket}
use Rattle.core_player.specs.declared.script.Step.{Step}
use Rattle.core_player.specs.declared.script.Step.TheVariants as step
use Rattle.router_core.specs.Replies.{handled}
use Rattle.router_core.proofs.Booking.{booked_keeps}
use Rattle.router_core.proofs.Books.{started_handled}
use Rattle.router_core.proofs.Copied.{copied_keeps}
use Rattle.router_core.proofs.Following.{all_keep}
use Rattle.router_core.proofs.Resuming.{resumed_keeps}
use Rattle.router_play.specs.Script.{Scene, refused, say, say_all, out_line, with_socket, with_trace, stream_of, hand, judged_by, enter_at, enter_by, enter, enter_all, Reads, BytesCome, new_socket, made, make, told, lose_by, lose, Takes, is_last, close_if, take_one, take_all, Plays}
use Rattle.theorems.specs.AsTold.{ItemIsEncoded, EventIsEncoded, FramesAreEncoded}
use Rattle.theorems.specs.Scripts.{BringsBytes, AllBringBytes}
use Rattle.theorems.proofs.Encoded.{AllBytes, all_bytes}
use Rattle.theorems.proofs.EncodedItems.{AreEncoded, join_bytes, cut_encoded}
use Rattle.theorems.proofs.KeptFirst.{LeadsInTurn, turns_on}

-- What follows an event brings no frame.

goes_encoded : (ps : List Put) (u : Trace) → FramesAreEncoded u → FramesAreEncoded (goes ps u)
goes_encoded [] u was = was
goes_encoded (p ∷ ps) u was = goes_encoded ps (Out p.conn p.item ∷ u) was

ends_encoded : (id : List ℕ) (cs : List ℕ) (u : Trace) → FramesAreEncoded u → FramesAreEncoded (ends id cs u)
ends_encoded id [] u was = was
ends_encoded id (c ∷ cs) u was =
    let items : List Item = closing_of id (conn u c) ResourceLimitExceeded in
    ends_encoded id cs (puts c items u) (goes_encoded (each_to c items) u was)

bound_encoded : (b : Option Binding) (u : Trace) → FramesAreEncoded u → FramesAreEncoded (with_bound b u)
bound_encoded None u was = was
bound_encoded (Some b) u was = was

pub handled_encoded : (id : List ℕ) (t : Trace) (s : AStep) → EventIsEncoded s.event → FramesAreEncoded t → FramesAreEncoded (handled id t s)
handled_encoded id t s came was = all_keep FramesAreEncoded goes_encoded (resumed at e (replied id at s)) taken
  where
    e : Event
    e = s.event

    at : Trace
    at = booked t e

    u : Trace
    u = heard id at s

    here : FramesAreEncoded u
    here = ends_encoded id (due t e) (Did s ∷ at) (came, booked_keeps FramesAreEncoded t e (λ acts w. w) was)

    rows : FramesAreEncoded (replied id at s)
    rows = copied_keeps FramesAreEncoded (λ b v w. w) at u e (goes (own_row id at u e) (with_bound (bound_by at u e) u))
        (goes_encoded (own_row id at u e) (with_bound (bound_by at u e) u) (bound_encoded (bound_by at u e) u here))

    taken : FramesAreEncoded (resumed at e (replied id at s))
    taken = resumed_keeps FramesAreEncoded (λ b v w. w) at e (replied id at s) rows

-- What a connection has of its stream are bytes.

abbrev HasBytes : Option Socket → Type 0
HasBytes None = Unit {0}
HasBytes (Some k) = AllBytes k.reader.rest

one_of : (b : Bool) (k o : Option Socket) → HasBytes k → HasBytes o → HasBytes (if b then k else o)
one_of true k o here other = here
one_of false k o here other = other

leads_on : (id : List ℕ) (t u v : Trace) → LeadsInTurn id t u → LeadsInTurn id u v → LeadsInTurn id t v
leads_on id t u v first rest = (first.0 ++ rest.0, turns_on id first.0 rest.0 t u v first.1 rest.1)

-- A scene of a router of this name, to whose trace moves lead from this one.
module _ (id : List ℕ) (first : Trace) where
  pub record Heard (s : Scene) : Type 0 where
    pub named : s.id ≡ id
    pub leads : LeadsInTurn id first s.trace
    pub started : is_started s.trace ≡ true
    pub frames : FramesAreEncoded s.trace
    pub streams : (c : ℕ) → HasBytes (s.sockets c)

  said : (ls : List Line) (s : Scene) → Heard s → Heard (say_all ls s)
  said ls s was = record { named = was.named; leads = was.leads; started = was.started; frames = was.frames; streams = was.streams }

  set : (c : ConnectionId) (k : Option Socket) (s : Scene) → HasBytes k → Heard s → Heard (with_socket c k s)
  set c k s has was = record {
    named = was.named;
    leads = was.leads;
    started = was.started;
    frames = was.frames;
    streams = λ n. one_of (c.0 == n) k (s.sockets n) has (was.streams n);
  }

  -- events

  handed : (e : Event) (s : Scene) → EventIsEncoded e → is_out_of_turn s.trace e ≡ false → Heard s → Heard (hand e s)
  handed e s came turn was = by_answer (refuses s.trace e) refl
    where
      by_answer : (b : Bool) → refuses s.trace e ≡ b → Heard (if b then say refused s else with_trace (handled s.id s.trace (step_of e)) s)
      by_answer true is = said (refused ∷ []) s was
      by_answer false is =
          let u : Trace = handled s.id s.trace (step_of e) in
          let taken : declines s.trace e ≡ false = ap (λ q. q || refuses s.trace e) turn ∙ is in
          let on : LeadsInTurn id s.trace u = subst (λ (i : List ℕ). LeadsInTurn i s.trace u) was.named (handles (step_of e) ∷ [], (taken, refl)) in
          record {
            named = was.named;
            leads = leads_on id first s.trace u was.leads on;
            started = started_handled s.id s.trace e taken;
            frames = handled_encoded s.id s.trace (step_of e) came was.frames;
            streams = was.streams;
          }

  item_heard : (c : ConnectionId) (i : Item) (s : Scene) → ItemIsEncoded i → Heard s → Heard (hand (event.Item c i) s)
  item_heard c i s came was = handed (event.Item c i) s came (ap not was.started) was

  judged_heard : (c : ConnectionId) (i : Item) (k : Socket) (d : DoorState) (s : Scene) (v : Verdict) → ItemIsEncoded i → HasBytes (Some k) → Heard s → Heard (judged_by c i k d s v)
  judged_heard c i k d s (says items) came has was =
      let new : Socket = record { door = Some (door_after d i); reader = k.reader } in
      said (map (out_line c) items) (with_socket c (Some new) s) (set c (Some new) s has was)
  judged_heard c i k d s (passes user) came has was =
      let passed : Socket = record { door = None; reader = k.reader } in
      let inside : Scene = with_socket c (Some passed) s in
      let up : Event = event.Up c (record { user = user; role = d.role }) in
      let there : Heard inside = set c (Some passed) s has was in
      item_heard c i (hand up inside) came (handed up inside tt (ap not there.started) there)
  judged_heard c i k d s (ends_it items) came has was =
      let over : Scene = with_socket c None s in
      said (line.End c ∷ []) (say_all (map (out_line c) items) over) (said (map (out_line c) items) over (set c None s tt was))

  enter_heard : (c : ConnectionId) (i : Item) (s : Scene) → ItemIsEncoded i → Heard s → Heard (enter c i s)
  enter_heard c i s came was = by_socket (s.sockets c.0) (was.streams c.0)
    where
      by_door : (k : Socket) (d : Option DoorState) → HasBytes (Some k) → Heard (enter_at c i k s d)
      by_door k None has = item_heard c i s came was
      by_door k (Some d) has = judged_heard c i k d s (door d i) came has was

      by_socket : (o : Option Socket) → HasBytes o → Heard (enter_by c i s o)
      by_socket None has = was
      by_socket (Some k) has = by_door k k.door has

  enter_all_heard : (c : ConnectionId) (is : List Item) (s : Scene) → AreEncoded is → Heard s → Heard (enter_all c is s)
  enter_all_heard c [] s came was = was
  enter_all_heard c (i ∷ is) s came was = enter_all_heard c is (enter c i s) came.1 (enter_heard c i s came.0 was)

  bytes_heard : (c : ConnectionId) (bytes : List ℕ) (s : Scene) (o : Option Socket) (u : Scene) → AllBytes bytes → HasBytes o → BytesCome c bytes s o u → Heard s → Heard u
  bytes_heard c bytes s None u all has come was = subst Heard (sym come) (said (refused ∷ []) s was)
  bytes_heard c bytes s (Some k) u all has come was = by_stream k.reader.failed come
    where
      by_stream : (b : Bool) → Reads c bytes s k b u → Heard u
      by_stream true is = subst Heard (sym is) (said (refused ∷ []) s was)
      by_stream false is =
          let new : Socket = stream_of k is.2 is.0 in
          let cut = cut_encoded is.0 (k.reader.rest ++ bytes) is.1 is.2 is.3 (join_bytes k.reader.rest bytes has all) in
          subst Heard (sym is.4) (enter_all_heard c is.1 (with_socket c (Some new) s) cut.0 (set c (Some new) s cut.1 was))

  -- steps

  make_heard : (c : ConnectionId) (role : PeerRole) (s : Scene) → Heard s → Heard (make c role s)
  make_heard c role s was = by_number (rises c.0 s.last)
    where
      by_number : (b : Bool) → Heard (if b then made c role s else say refused s)
      by_number true = record {
        named = was.named;
        leads = was.leads;
        started = was.started;
        frames = was.frames;
        streams = λ n. one_of (c.0 == n) (Some (new_socket (door_for s.config role))) (s.sockets n) tt (was.streams n);
      }
      by_number false = said (refused ∷ []) s was

  lose_heard : (c : ConnectionId) (s : Scene) → Heard s → Heard (lose c s)
  lose_heard c s was = by_socket (s.sockets c.0)
    where
      closed : Heard (with_socket c None s)
      closed = set c None s tt was

      by_door : (d : Option DoorState) → Heard (told c (with_socket c None s) d)
      by_door None = handed (event.Down c) (with_socket c None s) tt (ap not was.started) closed
      by_door (Some d) = closed

      by_socket : (o : Option Socket) → Heard (lose_by c s o)
      by_socket None = said (refused ∷ []) s was
      by_socket (Some k) = by_door k.door

  takes_heard : (x : Step) (s u : Scene) → BringsBytes x → Takes x s u → Heard s → Heard u
  takes_heard (step.Up c role) s u brings is was = subst Heard (sym is) (make_heard c role s was)
  takes_heard (step.In c bytes) s u brings is was = bytes_heard c bytes s (s.sockets c.0) u (all_bytes bytes brings) (was.streams c.0) is was
  takes_heard (step.Down c) s u brings is was = subst Heard (sym is) (lose_heard c s was)
  takes_heard (step.Tick ms) s u brings is was = subst Heard (sym is) (handed (event.Tick ms) s tt (ap not was.started) was)
  takes_heard (step.Fuse calls) s u brings is was = subst Heard (sym is) was

  abbrev taken_out : Taking → Scene → Scene
  taken_out x s = say_all (map (out_line x.conn) (items_of x s.trace)) (with_trace (took_one x s.trace) s)

  take_heard : (x : Taking) (s : Scene) → Heard s → Heard (take_one x s)
  take_heard x s was = by_end (is_last (length (items_of x s.trace)) (conn s.trace x.conn.0))
    where
      after : Heard (taken_out x s)
      after = record {
        named = was.named;
        leads = leads_on id first s.trace (took_one x s.trace) was.leads (takes x ∷ [], refl);
        started = was.started;
        frames = was.frames;
        streams = was.streams;
      }

      by_end : (b : Bool) → Heard (close_if b x.conn (taken_out x s))
      by_end true = said (line.End x.conn ∷ []) (with_socket x.conn None (taken_out x s)) (set x.conn None (taken_out x s) tt after)
      by_end false = after

  take_all_heard : (xs : List Taking) (s : Scene) → Heard s → Heard (take_all xs s)
  take_all_heard [] s was = was
  take_all_heard (x ∷ xs) s was = take_all_heard xs (take_one x s) (take_heard x s was)

  pub plays_heard : (xs : List Step) (s u : Scene) → AllBringBytes xs → Plays xs s u → Heard s → Heard u
  plays_heard [] s u brings plays was = subst Heard (sym plays) was
  plays_heard (x ∷ xs) s u brings plays was =
      plays_heard xs plays.1 u brings.1 plays.4
      (subst Heard (sym plays.3.scene) (take_all_heard plays.3.takes plays.0 (takes_heard x s plays.0 brings.0 plays.2 was)))
