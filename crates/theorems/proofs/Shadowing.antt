-- A script of which no outbox is ever full agrees with its course without takes.
use Rattle.std.proofs.Common.{◌≡◌, ◌∙◌, sym, ap, refl, subst, true≢false, ℕ, Bool, true, false, ◌<◌, List, [], ◌∷◌, ◌++◌, length, arith}
use Rattle.std.specs.Prelude.{◌==◌, Option, Some, None, is_some, map, option_map, nat_lt, if◌then◌else◌}
use Rattle.std.proofs.lemmas.Bool.{eqb-true, ltb-true, lt-ltb}
use Rattle.amqp_model.specs.declared.item.Item.{Item}
use Rattle.amqp_frames.proofs.Streams.{HasCut, has_cut}
use Rattle.route_table.specs.Settings.{Settings}
use Rattle.router_play.specs.Script.{new_router}
use Rattle.router_trace.specs.Configuration.{beginning}
use Rattle.router_trace.specs.declared.event.ConnectionId.{ConnectionId}
use Rattle.router_trace.specs.declared.event.PeerRole.{PeerRole}
use Rattle.router_trace.specs.declared.event.Event.{Event}
use Rattle.router_trace.specs.declared.event.Event.TheVariants as event
use Rattle.router_trace.specs.Trace.{Entry, Took, Booked, did}
use Rattle.router_trace.specs.Connection.{Connection, conn, is_live}
use Rattle.router_trace.specs.Refusing.{rises}
use Rattle.core_door.specs.declared.door.Door.{Door as DoorState}
use Rattle.core_machine.specs.Moves.{Taking, items_of, took_one}
use Rattle.theorems.specs.Takes.{untaken}
use Rattle.theorems.proofs.Plain.{Calm}
use Rattle.router_play.proofs.Beginning.{began}
use Rattle.core_player.specs.declared.socket.Socket.{Socket}
use Rattle.core_player.specs.declared.script.Step.{Step}
use Rattle.core_player.specs.declared.script.Step.TheVariants as step
use Rattle.core_player.specs.Listening.{door_for}
use Rattle.router_play.specs.Script.{Scene, opening, refused, say, say_all, out_line, with_socket, with_trace, stream_of, hand, Reads, BytesCome, made, make, told, lose_by, Takes, is_last, close_if, take_one, take_all, Plays}
use Rattle.state_connections.proofs.Lists.{by_test}
use Rattle.router_play.proofs.Scenes.{back}
use Rattle.router_play.proofs.Levels.{even_refl, took_lives, same}
use Rattle.router_play.proofs.Entering.{hand_sockets, hand_last}
use Rattle.router_play.proofs.Passing.{last_none, took_unknown}
use Rattle.router_play.proofs.PlayMoves.{Onward, onward_real, took_onward, take_all_onward, plays_onward}
use Rattle.theorems.proofs.Calming.{calm_before}
use Rattle.theorems.proofs.Courses.{Spot, Course, with_spot, with_stream, flowing, tell, come_all, come, come_at, come_by, kept, stream_at, bytes_by, bytes_come, made_by, told_at, lost_by, moved_by, course, tell_spots}
use Rattle.theorems.proofs.Streaming.{read_as}
use Rattle.theorems.proofs.Shadows.{Unknown, Shades, Kin, Shadows, Moved, moved_on, hand_even, hand_kin, hand_shadows, dead_item, dead_down, enter_all_shadows}

-- lines alone
say_shadows : (s : Scene) (p : Course) → Shadows s p → Shadows (say refused s) p
say_shadows s p h = record { kin = record { id = h.kin.id; config = h.kin.config; last = h.kin.last; trace = h.kin.trace; real = h.kin.real }; spots = h.spots; unmade = h.unmade }

-- what isn't open in the scene may be in any state in the course, or be removed
spot_shadows : (c : ℕ) (b : Option Spot) (s : Scene) (p : Course) → Shades s.trace c (s.sockets c) b → Shadows s p → Shadows s (with_spot c b p)
spot_shadows c b s p at h = record {
  kin = record { id = h.kin.id; config = h.kin.config; last = h.kin.last; trace = h.kin.trace; real = h.kin.real };
  spots = λ n. by_test (c == n)
      (λ e. rw e (subst (λ (m : ℕ). Shades s.trace m (s.sockets m) b) (eqb-true c n e) at))
      (λ e. rw e (h.spots n));
  unmade = h.unmade;
}

stream_shadows : (c : ℕ) (st : Option (List ℕ)) (s : Scene) (p : Course) → s.sockets c ≡ None → Shadows s p → Shadows s (with_stream c st p)
stream_shadows c st s p closed h = record {
  kin = record { id = h.kin.id; config = h.kin.config; last = h.kin.last; trace = h.kin.trace; real = h.kin.real };
  spots = λ n. by_test (c == n)
      (λ e. rw e (at n (s.sockets n) (p.spots n) (subst (λ (m : ℕ). s.sockets m ≡ None) (eqb-true c n e) closed) (h.spots n)))
      (λ e. rw e (h.spots n));
  unmade = h.unmade;
}
  where
    at : (n : ℕ) (a : Option Socket) (b : Option Spot) → a ≡ None → Shades s.trace n a b → Shades s.trace n a (option_map (flowing st) b)
    at n None None is h = tt
    at n None (Some q) is h = h
    at n (Some k) b is h = let bad : Some k ≡ None = is in absurd cc

-- a connection is made

rises_on : (c n : ℕ) (last : Option ℕ) → rises c last ≡ true → nat_lt c n ≡ true → rises n last ≡ true
rises_on c n None up above = refl
rises_on c n (Some l) up above = let h : l < n = over l c n (ltb-true l c up) (ltb-true c n above) in lt-ltb l n h
  where
    over : (l c n : ℕ) → l < c → c < n → l < n
    over l c n h i = omega arith

apart : (c n : ℕ) → nat_lt c n ≡ true → (c == n) ≡ false
apart c n above = by_test (c == n) (λ e. absurd (less c n (ltb-true c n above) (eqb-true c n e))) (λ e. e)
  where
    less : (c n : ℕ) → c < n → c ≡ n → ⊥
    less c n h e = omega (arith, e)

made_shadows : (c : ConnectionId) (role : PeerRole) (s : Scene) (p : Course) → rises c.0 s.last ≡ true → Shadows s p → Shadows (made c role s) (made_by c role p)
made_shadows c role s p up h = record {
  kin = record { id = h.kin.id; config = h.kin.config; last = refl; trace = h.kin.trace; real = h.kin.real };
  spots = λ n. by_test (c.0 == n)
      (λ e. rw e (ap (λ (w : Settings). Some (door_for w role)) h.kin.config, refl, subst (λ (m : ℕ). conn s.trace m ≡ None) (eqb-true c.0 n e) (h.unmade c.0 up).1))
      (λ e. rw e (h.spots n));
  unmade = λ n above. let was = h.unmade n (rises_on c.0 n s.last up above) in (rw (apart c.0 n above) was.0, was.1);
}

make_shadows : (c : ConnectionId) (role : PeerRole) (s : Scene) (p : Course) → Shadows s p → Shadows (make c role s) (moved_by (step.Up c role) p)
make_shadows c role s p h = pick (rises c.0 s.last) (rises c.0 p.last) refl (ap (λ (l : Option ℕ). rises c.0 l) (sym h.kin.last))
  where
    pick : (a b : Bool) → rises c.0 s.last ≡ a → rises c.0 s.last ≡ b → Shadows (if a then made c role s else say refused s) (if b then made_by c role p else p)
    pick true true is too = made_shadows c role s p is h
    pick true false is too = absurd (true≢false (sym is ∙ too))
    pick false true is too = absurd (true≢false (sym too ∙ is))
    pick false false is too = say_shadows s p h

-- a connection is lost

open_lost : (c : ConnectionId) (k : Socket) (s : Scene) (p : Course) → s.sockets c.0 ≡ Some k → Shadows s p → (d : Option DoorState)
    → Calm (told c (with_socket c None s) d).trace → Shadows (told c (with_socket c None s) d) (told_at c (with_spot c.0 None p) d)
open_lost c k s p is h d calm = moved_on s (told c (with_socket c None s) d) p (told_at c (with_spot c.0 None p) d) c.0 k is (by_door d calm) h
  where
    by_door : (d : Option DoorState) → Calm (told c (with_socket c None s) d).trace → Moved s (told c (with_socket c None s) d) p (told_at c (with_spot c.0 None p) d) c.0
    by_door None calm =
        let a : Scene = with_socket c None s
        in let b : Course = with_spot c.0 None p
        in let down : Event = event.Down c
        in let here : (c.0 == c.0) ≡ true = same c.0
        in record {
          kin = hand_kin down a b calm (record { id = h.kin.id; config = h.kin.config; last = h.kin.last; trace = h.kin.trace; real = h.kin.real });
          last = hand_last down a;
          others = λ n e. (hand_sockets down a n ∙ (rw e refl), tell_spots down b n ∙ (rw e refl), hand_even down a n h.kin.real e);
          here = subst (λ (o : Option Socket). Shades (hand down a).trace c.0 o ((tell down b).spots c.0)) (sym (hand_sockets down a c.0))
              (subst (λ (o : Option Spot). Shades (hand down a).trace c.0 (a.sockets c.0) o) (sym (tell_spots down b c.0)) (rw here tt));
        }
    by_door (Some d) calm =
        let here : (c.0 == c.0) ≡ true = same c.0
        in record {
          kin = record { id = h.kin.id; config = h.kin.config; last = h.kin.last; trace = h.kin.trace; real = h.kin.real };
          last = refl;
          others = λ n e. rw e (refl, refl, even_refl s.trace n);
          here = rw here tt;
        }

lose_shadows : (c : ConnectionId) (s : Scene) (p : Course) → Shadows s p → (a : Option Socket) (b : Option Spot) → s.sockets c.0 ≡ a → Shades s.trace c.0 a b
    → Calm (lose_by c s a).trace → Shadows (lose_by c s a) (lost_by c p b)
lose_shadows c s p h None None is at calm = say_shadows s p h
lose_shadows c s p h None (Some q) is at calm =
    let gone : Shadows s (with_spot c.0 None p) = spot_shadows c.0 None s p (subst (λ (a : Option Socket). Shades s.trace c.0 a None) (sym is) tt) h
    in subst (λ (w : Course). Shadows (say refused s) w)
    (sym (ap (told_at c (with_spot c.0 None p)) at.0 ∙ dead_down c s (with_spot c.0 None p) calm gone.kin at.1)) (say_shadows s (with_spot c.0 None p) gone)
lose_shadows c s p h (Some k) None is at calm = absurd at
lose_shadows c s p h (Some k) (Some q) is at calm =
    subst (λ (d : Option DoorState). Shadows (told c (with_socket c None s) k.door) (told_at c (with_spot c.0 None p) d)) (sym at.0)
    (open_lost c k s p is h k.door calm)

-- bytes are received

dead_all : (c : ConnectionId) (is : List Item) (s : Scene) (p : Course) (o : Option Spot) → p.spots c.0 ≡ o → Shades s.trace c.0 None o → Calm s.trace → Kin s p → come_all c is p ≡ p
dead_all c [] s p o at shade calm kin = refl
dead_all c (i ∷ is) s p None at shade calm kin =
    let here : come c i p ≡ p = ap (come_by c i p) at
    in ap (come_all c is) here ∙ dead_all c is s p None at shade calm kin
dead_all c (i ∷ is) s p (Some q) at shade calm kin =
    let here : come c i p ≡ p = ap (come_by c i p) at ∙ ap (come_at c i q p) shade.0 ∙ dead_item c i s p calm kin shade.1
    in ap (come_all c is) here ∙ dead_all c is s p (Some q) at shade calm kin

closed_bytes : (c : ConnectionId) (bytes : List ℕ) (s : Scene) (p : Course) → s.sockets c.0 ≡ None → Calm s.trace → Shadows s p → (o : Option (List ℕ)) → Shadows s (bytes_by c bytes p o)
closed_bytes c bytes s p closed calm h None = h
closed_bytes c bytes s p closed calm h (Some r) =
    let k : HasCut (r ++ bytes) = has_cut (r ++ bytes)
    in let q : Course = with_stream c.0 (kept k.0 k.2) p
    in let stands : Shadows s q = stream_shadows c.0 (kept k.0 k.2) s p closed h
    in subst (λ (w : Course). Shadows s w)
    (sym (dead_all c k.1 s q (q.spots c.0) refl (subst (λ (a : Option Socket). Shades s.trace c.0 a (q.spots c.0)) closed (stands.spots c.0)) calm stands.kin)) stands

read_moved : (c : ConnectionId) (k : Socket) (ended : Bool) (rest : List ℕ) (s : Scene) (p : Course) → (q : Option Spot) → p.spots c.0 ≡ q → Shades s.trace c.0 (Some k) q → Kin s p
    → Moved s (with_socket c (Some (stream_of k rest ended)) s) p (with_stream c.0 (kept ended rest) p) c.0
read_moved c k ended rest s p None is at kin = absurd at
read_moved c k ended rest s p (Some q) is at kin =
    let here : (c.0 == c.0) ≡ true = same c.0
    in record {
      kin = record { id = kin.id; config = kin.config; last = kin.last; trace = kin.trace; real = kin.real };
      last = refl;
      others = λ n e. rw e (refl, refl, even_refl s.trace n);
      here = rw (here, is) (at.0, refl, at.2);
    }

bytes_shadows : (c : ConnectionId) (bytes : List ℕ) (s : Scene) (p : Course) (u : Scene) → Shadows s p → (a : Option Socket) → s.sockets c.0 ≡ a → BytesCome c bytes s a u
    → Calm u.trace → Shadows u (bytes_come c bytes p)
bytes_shadows c bytes s p u h None is came calm =
    subst (λ (w : Scene). Shadows w (bytes_come c bytes p)) (sym came)
    (say_shadows s (bytes_come c bytes p) (closed_bytes c bytes s p is (subst (λ (w : Scene). Calm w.trace) came calm) h (stream_at (p.spots c.0))))
bytes_shadows c bytes s p u h (Some k) is came calm = by_reader k.reader.failed refl came
  where
    at : Shades s.trace c.0 (Some k) (p.spots c.0)
    at = subst (λ (a : Option Socket). Shades s.trace c.0 a (p.spots c.0)) is (h.spots c.0)

    stream : (o : Option Spot) → Shades s.trace c.0 (Some k) o → stream_at o ≡ kept k.reader.failed k.reader.rest
    stream None shade = absurd shade
    stream (Some q) shade = shade.1

    by_reader : (b : Bool) → k.reader.failed ≡ b → Reads c bytes s k b u → Shadows u (bytes_come c bytes p)
    by_reader true failed reads =
        let none : stream_at (p.spots c.0) ≡ None = stream (p.spots c.0) at ∙ ap (λ (b : Bool). kept b k.reader.rest) failed
        in subst (λ (o : Option (List ℕ)). Shadows u (bytes_by c bytes p o)) (sym none)
        (subst (λ (w : Scene). Shadows w p) (sym reads) (say_shadows s p h))
    by_reader false failed reads =
        let some : stream_at (p.spots c.0) ≡ Some k.reader.rest = stream (p.spots c.0) at ∙ ap (λ (b : Bool). kept b k.reader.rest) failed
        in let ended : Bool = reads.0
        in let items : List Item = reads.1
        in let rest : List ℕ = reads.2
        in let a : Scene = with_socket c (Some (stream_of k rest ended)) s
        in let b : Course = with_stream c.0 (kept ended rest) p
        in let read : Shadows a b = moved_on s a p b c.0 k is (read_moved c k ended rest s p (p.spots c.0) refl at h.kin) h
        in subst (λ (o : Option (List ℕ)). Shadows u (bytes_by c bytes p o)) (sym some)
        (subst (λ (w : Course). Shadows u w) (sym (read_as c bytes k.reader.rest p ended items rest reads.3))
        (subst (λ (w : Scene). Shadows w (come_all c items b)) (sym reads.4)
        (enter_all_shadows c items a b (subst (λ (w : Scene). Calm w.trace) reads.4 calm) read)))

-- a step

takes_shadows : (x : Step) (s : Scene) (p : Course) (u : Scene) → Takes x s u → Calm u.trace → Shadows s p → Shadows u (moved_by x p)
takes_shadows (step.Up c role) s p u is calm h = subst (λ (w : Scene). Shadows w (moved_by (step.Up c role) p)) (sym is) (make_shadows c role s p h)
takes_shadows (step.In c bytes) s p u is calm h = bytes_shadows c bytes s p u h (s.sockets c.0) refl is calm
takes_shadows (step.Down c) s p u is calm h =
    subst (λ (w : Scene). Shadows w (moved_by (step.Down c) p)) (sym is)
    (lose_shadows c s p h (s.sockets c.0) (p.spots c.0) refl (h.spots c.0) (subst (λ (w : Scene). Calm w.trace) is calm))
takes_shadows (step.Tick ms) s p u is calm h =
    subst (λ (w : Scene). Shadows w (moved_by (step.Tick ms) p)) (sym is)
    (hand_shadows (event.Tick ms) s p (λ n. refl) (subst (λ (w : Scene). Calm w.trace) is calm) h)
takes_shadows (step.Fuse calls) s p u is calm h = subst (λ (w : Scene). Shadows w p) (sym is) h

-- takes

took_live : (t : List Entry) (d n c : ℕ) → is_live (conn (Took d n ∷ t) c) ≡ true → is_live (conn t c) ≡ true
took_live t d n c l = by_test (d == c) (λ e. took_lives n (conn t c) (rw e at l)) (λ e. rw e at l)

shades_took : (t : List Entry) (d n c : ℕ) (a : Option Socket) (b : Option Spot) → Shades t c a b → Shades (Took d n ∷ t) c a b
shades_took t d n c None None h = tt
shades_took t d n c None (Some q) h = (h.0, back (is_live (conn (Took d n ∷ t) c)) (is_live (conn t c)) (took_live t d n c) h.1)
shades_took t d n c (Some k) None h = h
shades_took t d n c (Some k) (Some q) h = (h.0, h.1, by_door k.door h.2)
  where
    by_door : (o : Option DoorState) → Unknown t c o → Unknown (Took d n ∷ t) c o
    by_door None h = tt
    by_door (Some dd) h = took_unknown t d n c h

-- with its last item a connection is closed that the router knew and that is unknown from then on
shades_last : (t : List Entry) (d n : ℕ) (a : Option Socket) (b : Option Spot) → is_last n (conn t d) ≡ true → Shades t d a b → Shades (Took d n ∷ t) d None b
shades_last t d n a b last h = by_both a b h
  where
    gone : conn (Took d n ∷ t) d ≡ None
    gone = let here : (d == d) ≡ true = same d in rw here (last_none n (conn t d) last).1

    past : (o : Option DoorState) → Unknown t d o → o ≡ None
    past None h = refl
    past (Some dd) h = absurd (true≢false (sym (last_none n (conn t d) last).0 ∙ ap (λ (o : Option Connection). is_some o) h))

    by_both : (a : Option Socket) (b : Option Spot) → Shades t d a b → Shades (Took d n ∷ t) d None b
    by_both None None h = tt
    by_both None (Some q) h = (h.0, ap is_live gone)
    by_both (Some k) None h = tt
    by_both (Some k) (Some q) h = (h.0 ∙ past k.door h.2, ap is_live gone)

take_shadows : (x : Taking) (s : Scene) (p : Course) → Shadows s p → Shadows (take_one x s) p
take_shadows x s p h = by_end (is_last (length (items_of x s.trace)) (conn s.trace x.conn.0)) refl
  where
    by_end : (b : Bool) → is_last (length (items_of x s.trace)) (conn s.trace x.conn.0) ≡ b
        → Shadows (close_if b x.conn (say_all (map (out_line x.conn) (items_of x s.trace)) (with_trace (took_one x s.trace) s))) p
    by_end false is = record {
      kin = record { id = h.kin.id; config = h.kin.config; last = h.kin.last; trace = h.kin.trace; real = onward_real s (with_trace (took_one x s.trace) s) (took_onward x s) h.kin.real };
      spots = λ c. shades_took s.trace x.conn.0 (length (items_of x s.trace)) c (s.sockets c) (p.spots c) (h.spots c);
      unmade = λ c r. ((h.unmade c r).0, took_unknown s.trace x.conn.0 (length (items_of x s.trace)) c (h.unmade c r).1);
    }
    by_end true is = record {
      kin = record { id = h.kin.id; config = h.kin.config; last = h.kin.last; trace = h.kin.trace; real = onward_real s (with_trace (took_one x s.trace) s) (took_onward x s) h.kin.real };
      spots = λ c. by_test (x.conn.0 == c)
          (λ e. rw e (subst (λ (m : ℕ). Shades (took_one x s.trace) m None (p.spots m)) (eqb-true x.conn.0 c e)
          (shades_last s.trace x.conn.0 (length (items_of x s.trace)) (s.sockets x.conn.0) (p.spots x.conn.0) is (h.spots x.conn.0))))
          (λ e. rw e (shades_took s.trace x.conn.0 (length (items_of x s.trace)) c (s.sockets c) (p.spots c) (h.spots c)));
      unmade = λ c r. (
        by_test (x.conn.0 == c) (λ e. rw e refl) (λ e. rw e (h.unmade c r).0),
        took_unknown s.trace x.conn.0 (length (items_of x s.trace)) c (h.unmade c r).1,
      );
    }

take_all_shadows : (xs : List Taking) (s : Scene) (p : Course) → Shadows s p → Shadows (take_all xs s) p
take_all_shadows [] s p h = h
take_all_shadows (x ∷ xs) s p h = take_all_shadows xs (take_one x s) p (take_shadows x s p h)

-- a script

plays_shadows : (xs : List Step) (s : Scene) (p : Course) (u : Scene) → Plays xs s u → Calm u.trace → Shadows s p → Shadows u (course xs p)
plays_shadows [] s p u plays calm h = subst (λ (w : Scene). Shadows w p) (sym plays) h
plays_shadows (x ∷ xs) s p u plays calm h =
    let mid : Scene = plays.0
    in let next : Scene = plays.1
    in let emptied : Onward mid next = subst (λ (v : Scene). Onward mid v) (sym plays.3.scene) (take_all_onward plays.3.takes mid)
    in let calm_next : Calm next.trace = calm_before next u (plays_onward xs next u plays.4) calm
    in let stepped : Shadows mid (moved_by x p) = takes_shadows x s p mid plays.2 (calm_before mid next emptied calm_next) h
    in plays_shadows xs next (moved_by x p) u plays.4 calm
    (subst (λ (w : Scene). Shadows w (moved_by x p)) (sym plays.3.scene) (take_all_shadows plays.3.takes mid (moved_by x p) stepped))

-- from the opening on

abbrev pub first : Settings → Course
first config = record { id = config.router_id; config = config; trace = did event.Start ∷ Booked [] [] ∷ beginning (new_router config); last = None; spots = λ c. None }

pub play_course : (config : Settings) (xs : List Step) (u : Scene) → Plays xs (opening config) u → Calm u.trace → untaken u.trace ≡ (course xs (first config)).trace
play_course config xs u plays calm = (plays_shadows xs (opening config) (first config) u plays calm (record {
  kin = record { id = refl; config = refl; last = refl; trace = refl; real = (new_router config, began config.router_id (new_router config)) };
  spots = λ c. tt;
  unmade = λ c r. (refl, refl);
})).kin.trace
