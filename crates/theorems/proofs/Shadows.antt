-- A scene of a script, and its course without takes: how both continue with an item.
use Rattle.std.proofs.Common.{◌≡◌, ◌∙◌, sym, ap, refl, subst, true≢false, ℕ, Bool, true, false, not, List, [], ◌∷◌}
use Rattle.std.specs.Prelude.{◌==◌, Option, Some, None, if◌then◌else◌}
use Rattle.std.proofs.lemmas.Bool.{eqb-true}
use Rattle.amqp_model.specs.declared.item.Item.{Item}
use Rattle.router_trace.specs.declared.event.ConnectionId.{ConnectionId}
use Rattle.router_trace.specs.declared.event.Peer.{Peer}
use Rattle.router_trace.specs.declared.event.Event.{Event}
use Rattle.router_trace.specs.declared.event.Event.TheVariants as event
use Rattle.router_trace.specs.Trace.{Entry, step_of}
use Rattle.router_trace.specs.Connection.{conn, is_live}
use Rattle.router_trace.specs.Refusing.{refuses, rises}
use Rattle.core_door.specs.declared.door.Door.{Door as DoorState}
use Rattle.core_door.specs.Door.{Verdict, says, passes, ends, door}
use Rattle.router_core.specs.Replies.{handled}
use Rattle.theorems.specs.Takes.{untaken}
use Rattle.theorems.proofs.Plain.{Calm}
use Rattle.theorems.proofs.Takes.{plain_handled, same_handled}
use Rattle.core_player.specs.declared.socket.Socket.{Socket}
use Rattle.router_play.specs.Script.{Scene, refused, say, with_socket, with_trace, hand, judged_by, enter_at, enter_by, enter, enter_all}
use Rattle.state_connections.proofs.Lists.{by_test}
use Rattle.router_play.proofs.Scenes.{back}
use Rattle.router_play.proofs.Levels.{Even, even_refl, even_trans, moves, handled_even, same}
use Rattle.router_play.proofs.Entering.{hand_cases, hand_sockets, hand_last, even_unknown}
use Rattle.router_play.proofs.PlayMoves.{Real, onward_real, hand_onward, enter_all_onward}
use Rattle.theorems.proofs.Calming.{handled_before, calm_before, same_refused}
use Rattle.theorems.proofs.Courses.{Spot, Course, with_spot, on_trace, tell, judge, come_at, come_by, come, come_all, kept, plain_refuses, tell_spots}

-- a connection at the door is unknown to the router
abbrev pub Unknown : List Entry → ℕ → Option DoorState → Type 0
Unknown t c None = Unit {0}
Unknown t c (Some d) = conn t c ≡ None

-- an open connection is at the same door with the same stream in both; one that is closed may be open in the course, if it is past
-- the door and isn't live
abbrev pub Shades : List Entry → ℕ → Option Socket → Option Spot → Type 0
Shades t c None None = Unit {0}
Shades t c None (Some q) = (q.door ≡ None) × (is_live (conn t c) ≡ false)
Shades t c (Some k) None = ⊥
Shades t c (Some k) (Some q) = (q.door ≡ k.door) × (q.stream ≡ kept k.reader.failed k.reader.rest) × Unknown t c k.door

-- the same except lines, takes and connections
pub record Kin (s : Scene) (p : Course) : Type 0 where
  pub id : p.id ≡ s.id
  pub config : p.config ≡ s.config
  pub last : p.last ≡ s.last
  pub trace : untaken s.trace ≡ p.trace
  pub real : Real s

pub record Shadows (s : Scene) (p : Course) : Type 0 where
  pub kin : Kin s p
  pub spots : (c : ℕ) → Shades s.trace c (s.sockets c) (p.spots c)
  -- a connection that isn't made is closed, and unknown
  pub unmade : (c : ℕ) → rises c s.last ≡ true → (s.sockets c ≡ None) × (conn s.trace c ≡ None)

-- the trace continues with entries about another connection

unknown_even : (t u : List Entry) (c : ℕ) → Even t u c → (d : Option DoorState) → Unknown t c d → Unknown u c d
unknown_even t u c even None h = tt
unknown_even t u c even (Some d) h = even_unknown t u c even h

pub shades_even : (t u : List Entry) (c : ℕ) → Even t u c → (a : Option Socket) (b : Option Spot) → Shades t c a b → Shades u c a b
shades_even t u c even None None h = tt
shades_even t u c even None (Some q) h = (h.0, back (is_live (conn u c)) (is_live (conn t c)) even.lives h.1)
shades_even t u c even (Some k) None h = h
shades_even t u c even (Some k) (Some q) h = (h.0, h.1, unknown_even t u c even k.door h.2)

-- an event

pub hand_even : (e : Event) (s : Scene) (c : ℕ) → Real s → moves e c ≡ false → Even s.trace (hand e s).trace c
hand_even e s c real still = hand_cases (λ u. Even s.trace u.trace c) e s (λ r. even_refl s.trace c) (λ r. handled_even s.id real.0 s.trace e c real.1 r still)

pub hand_kin : (e : Event) (s : Scene) (p : Course) → Calm (hand e s).trace → Kin s p → Kin (hand e s) (tell e p)
hand_kin e s p calm kin =
    let same_test : refuses s.trace e ≡ plain_refuses p.trace e
    = same_refused s.trace e (calm_before s (hand e s) (hand_onward e s) calm) ∙ ap (λ (x : List Entry). plain_refuses x e) kin.trace
    in pick (refuses s.trace e) (plain_refuses p.trace e) same_test calm (onward_real s (hand e s) (hand_onward e s) kin.real)
  where
    pick : (a b : Bool) → a ≡ b
        → Calm (if a then say refused s else with_trace (handled s.id s.trace (step_of e)) s).trace
        → Real (if a then say refused s else with_trace (handled s.id s.trace (step_of e)) s)
        → Kin (if a then say refused s else with_trace (handled s.id s.trace (step_of e)) s) (if b then p else on_trace (plain_handled p.id p.trace (step_of e)) p)
    pick true true is calm real = record { id = kin.id; config = kin.config; last = kin.last; trace = kin.trace; real = real }
    pick true false is calm real = absurd (true≢false is)
    pick false true is calm real = absurd (true≢false (sym is))
    pick false false is calm real =
        let was = handled_before s.id s.trace (step_of e) calm
        in record {
          id = kin.id;
          config = kin.config;
          last = kin.last;
          trace = (same_handled s.id s.trace (step_of e) was.1 was.0).1
              ∙ (λ j. plain_handled (sym kin.id j) (kin.trace j) (step_of e));
          real = real;
        }

-- an event that brings up and loses no connection
pub hand_shadows : (e : Event) (s : Scene) (p : Course) → ((c : ℕ) → moves e c ≡ false) → Calm (hand e s).trace → Shadows s p → Shadows (hand e s) (tell e p)
hand_shadows e s p still calm h = record {
  kin = hand_kin e s p calm h.kin;
  spots = at_each;
  unmade = λ c r. let was = h.unmade c (subst (λ (l : Option ℕ). rises c l ≡ true) (hand_last e s) r)
      in (hand_sockets e s c ∙ was.0, even_unknown s.trace (hand e s).trace c (hand_even e s c h.kin.real (still c)) was.1);
}
  where
    at_each : (c : ℕ) → Shades (hand e s).trace c ((hand e s).sockets c) ((tell e p).spots c)
    at_each c =
        subst (λ (a : Option Socket). Shades (hand e s).trace c a ((tell e p).spots c)) (sym (hand_sockets e s c))
        (subst (λ (b : Option Spot). Shades (hand e s).trace c (s.sockets c) b) (sym (tell_spots e p c))
        (shades_even s.trace (hand e s).trace c (hand_even e s c h.kin.real (still c)) (s.sockets c) (p.spots c) (h.spots c)))

-- the change of one connection that was open, and of no other
pub record Moved (s u : Scene) (p q : Course) (c : ℕ) : Type 0 where
  pub kin : Kin u q
  pub last : u.last ≡ s.last
  pub others : (n : ℕ) → (c == n) ≡ false → (u.sockets n ≡ s.sockets n) × (q.spots n ≡ p.spots n) × Even s.trace u.trace n
  pub here : Shades u.trace c (u.sockets c) (q.spots c)

none_some : (o : Option Socket) (k : Socket) → o ≡ Some k → o ≡ None → ⊥
none_some o k some none = let e : Some k ≡ None = sym some ∙ none in absurd cc

pub moved_on : (s u : Scene) (p q : Course) (c : ℕ) (k : Socket) → s.sockets c ≡ Some k → Moved s u p q c → Shadows s p → Shadows u q
moved_on s u p q c k is m h = record {
  kin = m.kin;
  spots = λ n. by_test (c == n)
      (λ e. subst (λ (x : ℕ). Shades u.trace x (u.sockets x) (q.spots x)) (eqb-true c n e) m.here)
      (λ e. let at = m.others n e
      in subst (λ (a : Option Socket). Shades u.trace n a (q.spots n)) (sym at.0)
      (subst (λ (b : Option Spot). Shades u.trace n (s.sockets n) b) (sym at.1) (shades_even s.trace u.trace n at.2 (s.sockets n) (p.spots n) (h.spots n))));
  unmade = λ n r. let was = h.unmade n (subst (λ (l : Option ℕ). rises n l ≡ true) m.last r)
      in by_test (c == n)
      (λ e. absurd (none_some (s.sockets n) k (subst (λ (x : ℕ). s.sockets x ≡ Some k) (eqb-true c n e) is) was.0))
      (λ e. let at = m.others n e in (at.0 ∙ was.0, even_unknown s.trace u.trace n at.2 was.1));
}

-- the door's verdict
judged_moved : (c : ConnectionId) (i : Item) (k : Socket) (l : Spot) (d : DoorState) (s : Scene) (p : Course) → l.stream ≡ kept k.reader.failed k.reader.rest → conn s.trace c.0 ≡ None
    → Kin s p → (v : Verdict) → Calm (judged_by c i k d s v).trace → Moved s (judged_by c i k d s v) p (judge c i l d p v) c.0
judged_moved c i k l d s p stream unknown kin (says items) calm =
    let here : (c.0 == c.0) ≡ true = same c.0
    in record {
      kin = record { id = kin.id; config = kin.config; last = kin.last; trace = kin.trace; real = kin.real };
      last = refl;
      others = λ n e. rw e (refl, refl, even_refl s.trace n);
      here = rw here (refl, stream, unknown);
    }
judged_moved c i k l d s p stream unknown kin (passes user) calm =
    let x : Peer = record { user = user; role = d.role }
    in let a : Scene = with_socket c (Some (record { door = None; reader = k.reader })) s
    in let b : Course = with_spot c.0 (Some (record { door = None; stream = l.stream })) p
    in let up : Event = event.Up c x
    in let it : Event = event.Item c i
    in let here : (c.0 == c.0) ≡ true = same c.0
    in let socket : (n : ℕ) → (hand it (hand up a)).sockets n ≡ a.sockets n = λ n. hand_sockets it (hand up a) n ∙ hand_sockets up a n
    in let spot : (n : ℕ) → (tell it (tell up b)).spots n ≡ b.spots n = λ n. tell_spots it (tell up b) n ∙ tell_spots up b n
    in let inside : Kin a b = record { id = kin.id; config = kin.config; last = kin.last; trace = kin.trace; real = kin.real }
    in record {
      kin = hand_kin it (hand up a) (tell up b) calm (hand_kin up a b (calm_before (hand up a) (hand it (hand up a)) (hand_onward it (hand up a)) calm) inside);
      last = hand_last it (hand up a) ∙ hand_last up a;
      others = λ n e. (
        socket n ∙ (rw e refl),
        spot n ∙ (rw e refl),
        even_trans s.trace (hand up a).trace (hand it (hand up a)).trace n (hand_even up a n kin.real e) (hand_even it (hand up a) n (onward_real a (hand up a) (hand_onward up a) kin.real) refl),
      );
      here = subst (λ (o : Option Socket). Shades (hand it (hand up a)).trace c.0 o ((tell it (tell up b)).spots c.0)) (sym (socket c.0))
          (subst (λ (o : Option Spot). Shades (hand it (hand up a)).trace c.0 (a.sockets c.0) o) (sym (spot c.0)) (rw here (refl, stream, tt)));
    }
judged_moved c i k l d s p stream unknown kin (ends items) calm =
    let here : (c.0 == c.0) ≡ true = same c.0
    in record {
      kin = record { id = kin.id; config = kin.config; last = kin.last; trace = kin.trace; real = kin.real };
      last = refl;
      others = λ n e. rw e (refl, refl, even_refl s.trace n);
      here = rw here tt;
    }

-- an item is received on an open connection
enter_at_shadows : (c : ConnectionId) (i : Item) (k : Socket) (l : Spot) (s : Scene) (p : Course) → s.sockets c.0 ≡ Some k → l.stream ≡ kept k.reader.failed k.reader.rest
    → Shadows s p → (d : Option DoorState) → Unknown s.trace c.0 d → Calm (enter_at c i k s d).trace → Shadows (enter_at c i k s d) (come_at c i l p d)
enter_at_shadows c i k l s p is stream h None unknown calm = hand_shadows (event.Item c i) s p (λ n. refl) calm h
enter_at_shadows c i k l s p is stream h (Some d) unknown calm =
    moved_on s (judged_by c i k d s (door d i)) p (judge c i l d p (door d i)) c.0 k is (judged_moved c i k l d s p stream unknown h.kin (door d i) calm) h

-- what is received on a connection that isn't live is refused

refused_in : (b : Bool) (x y : Course) → b ≡ true → (if b then x else y) ≡ x
refused_in true x y h = refl
refused_in false x y h = absurd (true≢false (sym h))

pub dead_item : (c : ConnectionId) (i : Item) (s : Scene) (p : Course) → Calm s.trace → Kin s p → is_live (conn s.trace c.0) ≡ false → tell (event.Item c i) p ≡ p
dead_item c i s p calm kin dead =
    refused_in (plain_refuses p.trace (event.Item c i)) p (on_trace (plain_handled p.id p.trace (step_of (event.Item c i))) p)
    (sym (same_refused s.trace (event.Item c i) calm ∙ ap (λ (x : List Entry). plain_refuses x (event.Item c i)) kin.trace) ∙ ap not dead)

pub dead_down : (c : ConnectionId) (s : Scene) (p : Course) → Calm s.trace → Kin s p → is_live (conn s.trace c.0) ≡ false → tell (event.Down c) p ≡ p
dead_down c s p calm kin dead =
    refused_in (plain_refuses p.trace (event.Down c)) p (on_trace (plain_handled p.id p.trace (step_of (event.Down c))) p)
    (sym (same_refused s.trace (event.Down c) calm ∙ ap (λ (x : List Entry). plain_refuses x (event.Down c)) kin.trace) ∙ ap not dead)

-- an item is received

enter_by_shadows : (c : ConnectionId) (i : Item) (s : Scene) (p : Course) → Shadows s p → (a : Option Socket) (b : Option Spot) → s.sockets c.0 ≡ a → Shades s.trace c.0 a b
    → Calm (enter_by c i s a).trace → Shadows (enter_by c i s a) (come_by c i p b)
enter_by_shadows c i s p h None None is at calm = h
enter_by_shadows c i s p h None (Some q) is at calm =
    subst (λ (w : Course). Shadows s w) (sym (ap (come_at c i q p) at.0 ∙ dead_item c i s p calm h.kin at.1)) h
enter_by_shadows c i s p h (Some k) None is at calm = absurd at
enter_by_shadows c i s p h (Some k) (Some q) is at calm =
    subst (λ (d : Option DoorState). Shadows (enter_at c i k s k.door) (come_at c i q p d)) (sym at.0)
    (enter_at_shadows c i k q s p is at.1 h k.door at.2 calm)

pub enter_all_shadows : (c : ConnectionId) (is : List Item) (s : Scene) (p : Course) → Calm (enter_all c is s).trace → Shadows s p → Shadows (enter_all c is s) (come_all c is p)
enter_all_shadows c [] s p calm h = h
enter_all_shadows c (i ∷ is) s p calm h =
    enter_all_shadows c is (enter c i s) (come c i p) calm
    (enter_by_shadows c i s p h (s.sockets c.0) (p.spots c.0) refl (h.spots c.0) (calm_before (enter c i s) (enter_all c is (enter c i s)) (enter_all_onward c is (enter c i s)) calm))
