-- Plays consist of moves: their traces are traces of the router.
use Rattle.std.proofs.Common.{◌≡◌, ◌∙◌, sym, ap, refl, subst, ℕ, Bool, true, false, List, [], ◌∷◌}
use Rattle.std.specs.Prelude.{map, length, Option, Some, None, if◌then◌else◌}
use Rattle.amqp_model.specs.declared.item.Item.{Item}
use Rattle.router_play.specs.Script.{router_on}
use Rattle.reply_rows.specs.Acts.{Journaled}
use Rattle.router_trace.specs.Configuration.{beginning}
use Rattle.router_trace.specs.declared.event.ConnectionId.{ConnectionId}
use Rattle.router_trace.specs.declared.event.PeerRole.{PeerRole}
use Rattle.router_trace.specs.declared.event.Event.{Event}
use Rattle.router_trace.specs.declared.event.Event.TheVariants as event
use Rattle.route_table.specs.Settings.{Settings}
use Rattle.core_door.specs.declared.door.Door.{Door as DoorState}
use Rattle.core_player.specs.declared.socket.Socket.{Socket}
use Rattle.core_player.specs.declared.script.Step.{Step}
use Rattle.core_player.specs.declared.script.Step.TheVariants as step
use Rattle.router_trace.specs.Connection.{conn}
use Rattle.router_trace.specs.Refusing.{refuses, rises}
use Rattle.router_core.specs.Replies.{handled}
use Rattle.core_machine.specs.Moves.{Taking, items_of, took_one}
use Rattle.core_door.specs.Door.{Verdict, says, passes, ends, door}
use Rattle.router_play.specs.Script.{Scene, opening_on, refused, say, say_all, out_line, with_socket, with_trace, stream_of, hand, judged_by, enter_at, enter_by, enter, enter_all, Reads, BytesCome, made, make, told, lose_by, lose, Takes, is_last, close_if, take_one, take_all, Plays}
use Rattle.router_core.specs.Moves.{IsTrace}
use Rattle.router_core.proofs.Moves.{Leads, leads_on, leads_same, leads_event, leads_take}
use Rattle.router_trace.specs.Trace.{Beginning, step_of}
use Rattle.router_play.proofs.Beginning.{began}

-- a scene of the same router, to whose trace moves lead
pub record Onward (s u : Scene) : Type 0 where
  pub id : u.id ≡ s.id
  pub config : u.config ≡ s.config
  pub leads : Leads s.id s.trace u.trace

pub onward_on : (s u v : Scene) → Onward s u → Onward u v → Onward s v
onward_on s u v first rest = record {
  id = rest.id ∙ first.id;
  config = rest.config ∙ first.config;
  leads = leads_on s.id s.trace u.trace v.trace first.leads (subst (λ (id : List ℕ). Leads id u.trace v.trace) first.id rest.leads);
}

-- the same trace: only lines, connections or the last number differ
pub stays_put : (s u : Scene) → u.id ≡ s.id → u.config ≡ s.config → u.trace ≡ s.trace → Onward s u
stays_put s u id config trace = record {
  id = id;
  config = config;
  leads = leads_same s.id s.trace u.trace trace;
}

-- an event that is handled, and a take
pub answered_onward : (e : Event) (s : Scene) → refuses s.trace e ≡ false → Onward s (with_trace (handled s.id s.trace (step_of e)) s)
answered_onward e s is = record { id = refl; config = refl; leads = leads_event s.id s.trace e is }

pub took_onward : (x : Taking) (s : Scene) → Onward s (with_trace (took_one x s.trace) s)
took_onward x s = record { id = refl; config = refl; leads = leads_take s.id s.trace x }

-- its trace is one of the router, whatever it was opened with
abbrev pub Real : Scene → Type 0
Real s = (g : Beginning) × IsTrace s.id g s.trace

pub onward_real : (s u : Scene) → Onward s u → Real s → Real u
onward_real s u onward real =
    (real.0, subst (λ (id : List ℕ). IsTrace id real.0 u.trace) (sym onward.id) (leads_on s.id (beginning real.0) s.trace u.trace real.1 onward.leads))

pub hand_onward : (e : Event) (s : Scene) → Onward s (hand e s)
hand_onward e s = by_answer (refuses s.trace e) refl
  where
    by_answer : (b : Bool) → refuses s.trace e ≡ b → Onward s (if b then say refused s else with_trace (handled s.id s.trace (step_of e)) s)
    by_answer true is = stays_put s (say refused s) refl refl refl
    by_answer false is = answered_onward e s is

pub judged_onward : (c : ConnectionId) (i : Item) (k : Socket) (d : DoorState) (s : Scene) (v : Verdict) → Onward s (judged_by c i k d s v)
judged_onward c i k d s (says items) = stays_put s (judged_by c i k d s (says items)) refl refl refl
judged_onward c i k d s (passes user) =
    let inside : Scene = with_socket c (Some (record { door = None; reader = k.reader })) s
    in let up : Scene = hand (event.Up c (record { user = user; role = d.role })) inside
    in onward_on s inside (hand (event.Item c i) up) (stays_put s inside refl refl refl)
    (onward_on inside up (hand (event.Item c i) up) (hand_onward (event.Up c (record { user = user; role = d.role })) inside) (hand_onward (event.Item c i) up))
judged_onward c i k d s (ends items) = stays_put s (judged_by c i k d s (ends items)) refl refl refl

pub enter_onward : (c : ConnectionId) (i : Item) (s : Scene) → Onward s (enter c i s)
enter_onward c i s = by_socket (s.sockets c.0)
  where
    by_door : (k : Socket) (d : Option DoorState) → Onward s (enter_at c i k s d)
    by_door k None = hand_onward (event.Item c i) s
    by_door k (Some d) = judged_onward c i k d s (door d i)

    by_socket : (o : Option Socket) → Onward s (enter_by c i s o)
    by_socket None = stays_put s s refl refl refl
    by_socket (Some k) = by_door k k.door

pub enter_all_onward : (c : ConnectionId) (is : List Item) (s : Scene) → Onward s (enter_all c is s)
enter_all_onward c [] s = stays_put s s refl refl refl
enter_all_onward c (i ∷ is) s = onward_on s (enter c i s) (enter_all c is (enter c i s)) (enter_onward c i s) (enter_all_onward c is (enter c i s))

bytes_onward : (c : ConnectionId) (bytes : List ℕ) (s : Scene) (o : Option Socket) (u : Scene) → BytesCome c bytes s o u → Onward s u
bytes_onward c bytes s None u come = subst (λ (v : Scene). Onward s v) (sym come) (stays_put s (say refused s) refl refl refl)
bytes_onward c bytes s (Some k) u come = by_stream k.reader.failed come
  where
    by_stream : (b : Bool) → Reads c bytes s k b u → Onward s u
    by_stream true is = subst (λ (v : Scene). Onward s v) (sym is) (stays_put s (say refused s) refl refl refl)
    by_stream false is =
        let read : Scene = with_socket c (Some (stream_of k is.2 is.0)) s
        in subst (λ (v : Scene). Onward s v) (sym is.4) (onward_on s read (enter_all c is.1 read) (stays_put s read refl refl refl) (enter_all_onward c is.1 read))

make_onward : (c : ConnectionId) (role : PeerRole) (s : Scene) → Onward s (make c role s)
make_onward c role s = by_number (rises c.0 s.last)
  where
    by_number : (b : Bool) → Onward s (if b then made c role s else say refused s)
    by_number true = stays_put s (made c role s) refl refl refl
    by_number false = stays_put s (say refused s) refl refl refl

lose_onward : (c : ConnectionId) (s : Scene) → Onward s (lose c s)
lose_onward c s = by_socket (s.sockets c.0)
  where
    by_door : (d : Option DoorState) → Onward s (told c (with_socket c None s) d)
    by_door None = onward_on s (with_socket c None s) (hand (event.Down c) (with_socket c None s)) (stays_put s (with_socket c None s) refl refl refl) (hand_onward (event.Down c) (with_socket c None s))
    by_door (Some d) = stays_put s (with_socket c None s) refl refl refl

    by_socket : (o : Option Socket) → Onward s (lose_by c s o)
    by_socket None = stays_put s (say refused s) refl refl refl
    by_socket (Some k) = by_door k.door

pub takes_onward : (x : Step) (s u : Scene) → Takes x s u → Onward s u
takes_onward (step.Up c role) s u is = subst (λ (v : Scene). Onward s v) (sym is) (make_onward c role s)
takes_onward (step.In c bytes) s u is = bytes_onward c bytes s (s.sockets c.0) u is
takes_onward (step.Down c) s u is = subst (λ (v : Scene). Onward s v) (sym is) (lose_onward c s)
takes_onward (step.Tick ms) s u is = subst (λ (v : Scene). Onward s v) (sym is) (hand_onward (event.Tick ms) s)
takes_onward (step.Fuse calls) s u is = subst (λ (v : Scene). Onward s v) (sym is) (stays_put s s refl refl refl)

abbrev taken_out : Taking → Scene → Scene
taken_out x s = say_all (map (out_line x.conn) (items_of x s.trace)) (with_trace (took_one x s.trace) s)

take_onward : (x : Taking) (s : Scene) → Onward s (take_one x s)
take_onward x s = by_end (is_last (length (items_of x s.trace)) (conn s.trace x.conn.0))
  where
    by_end : (b : Bool) → Onward s (close_if b x.conn (taken_out x s))
    by_end true = record {
      id = refl;
      config = refl;
      leads = leads_take s.id s.trace x;
    }
    by_end false = record {
      id = refl;
      config = refl;
      leads = leads_take s.id s.trace x;
    }

pub take_all_onward : (xs : List Taking) (s : Scene) → Onward s (take_all xs s)
take_all_onward [] s = stays_put s s refl refl refl
take_all_onward (x ∷ xs) s = onward_on s (take_one x s) (take_all xs (take_one x s)) (take_onward x s) (take_all_onward xs (take_one x s))

pub plays_onward : (xs : List Step) (s u : Scene) → Plays xs s u → Onward s u
plays_onward [] s u plays = stays_put s u (ap (λ (v : Scene). v.id) plays) (ap (λ (v : Scene). v.config) plays) (ap (λ (v : Scene). v.trace) plays)
plays_onward (x ∷ xs) s u plays =
    let emptied : Onward plays.0 plays.1 = subst (λ (v : Scene). Onward plays.0 v) (sym plays.3.scene) (take_all_onward plays.3.takes plays.0)
    in onward_on s plays.0 u (takes_onward x s plays.0 plays.2) (onward_on plays.0 plays.1 u emptied (plays_onward xs plays.1 u plays.4))

pub play_is_trace : (config : Settings) (j : Journaled) (steps : List Step) (u : Scene) → Plays steps (opening_on config j) u → IsTrace config.router_id (router_on config j) u.trace
play_is_trace config j steps u plays =
    leads_on config.router_id (beginning (router_on config j)) (opening_on config j).trace u.trace (began config.router_id (router_on config j)) (plays_onward steps (opening_on config j) u plays).leads
