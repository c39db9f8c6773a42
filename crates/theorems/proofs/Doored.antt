-- Nothing was received from a connection at the door: how this holds as a scene continues.
use Rattle.std.proofs.Common.{◌≡◌, ◌∙◌, sym, ap, refl, subst, ℕ, Bool, true, false, List, [], ◌∷◌}
use Rattle.std.specs.Prelude.{◌==◌, Option, Some, None, if◌then◌else◌}
use Rattle.std.proofs.lemmas.Bool.{eqb-true}
use Rattle.amqp_model.specs.declared.item.Item.{Item}
use Rattle.router_trace.specs.declared.event.ConnectionId.{ConnectionId}
use Rattle.router_trace.specs.declared.event.Event.{Event}
use Rattle.core_door.specs.declared.door.Door.{Door as DoorState}
use Rattle.core_player.specs.declared.line.Line.{Line}
use Rattle.core_player.specs.declared.socket.Socket.{Socket}
use Rattle.router_trace.specs.Trace.{Entry, step_of}
use Rattle.router_trace.specs.Connection.{conn, is_live}
use Rattle.router_trace.specs.Refusing.{refuses, rises}
use Rattle.router_core.specs.Replies.{handled}
use Rattle.router_play.specs.Script.{Scene, refused, say, say_all, with_socket, with_trace, hand}
use Rattle.router_core.specs.Moves.{ins}
use Rattle.theorems.specs.Order.{is_header}
use Rattle.state_connections.proofs.Lists.{by_test}
use Rattle.router_core.proofs.Coming.{ins_handled}
use Rattle.theorems.proofs.Alike.{Alike, alike_same, came_other, is_about, over_handled}

-- an event is handed to the router
pub hand_alike : (e : Event) (s : Scene) (c : ℕ) → is_about e c ≡ false → Alike s.trace (hand e s).trace c
hand_alike e s c other = by_answer (refuses s.trace e)
  where
    by_answer : (b : Bool) → Alike s.trace (if b then say refused s else with_trace (handled s.id s.trace (step_of e)) s).trace c
    by_answer true = alike_same s.trace s.trace c refl
    by_answer false = record {
      came = ins_handled s.id s.trace e c ∙ came_other e c (ins s.trace c) other;
      over = over_handled s.id s.trace e c other;
    }

-- where the connections of a scene are

-- its first item is a header, or there is none
abbrev pub header_or_none : List Item → Bool
header_or_none [] = true
header_or_none (i ∷ is) = is_header i

-- nothing was received from a connection at the door; one that passed, and from which nothing was received, isn't live
abbrev pub AtDoor : List Entry → ℕ → Option DoorState → Type 0
AtDoor t c (Some d) = ins t c ≡ []
AtDoor t c None = ins t c ≡ [] → is_live (conn t c) ≡ false

abbrev pub AtSocket : List Entry → ℕ → Option Socket → Type 0
AtSocket t c None = Unit {0}
AtSocket t c (Some k) = AtDoor t c k.door

pub record Doored (s : Scene) : Type 0 where
  pub first : (c : ℕ) → header_or_none (ins s.trace c) ≡ true
  pub stands : (c : ℕ) → AtSocket s.trace c (s.sockets c)
  pub unmade : (c : ℕ) → rises c s.last ≡ true → (s.sockets c ≡ None) × (ins s.trace c ≡ [])

alike_door : (t u : List Entry) (c : ℕ) → Alike t u c → (d : Option DoorState) → AtDoor t c d → AtDoor u c d
alike_door t u c alike (Some d) at = alike.came ∙ at
alike_door t u c alike None at = λ none. alike.over (at (sym alike.came ∙ none))

alike_socket : (t u : List Entry) (c : ℕ) → Alike t u c → (o : Option Socket) → AtSocket t c o → AtSocket u c o
alike_socket t u c alike None at = at
alike_socket t u c alike (Some k) at = alike_door t u c alike k.door at

pub said : (ls : List Line) (s : Scene) → Doored s → Doored (say_all ls s)
said ls s was = record {
  first = was.first;
  stands = was.stands;
  unmade = was.unmade;
}

-- the trace grew by entries about no connection
pub grown : (s : Scene) (u : List Entry) → ((c : ℕ) → Alike s.trace u c) → Doored s → Doored (with_trace u s)
grown s u alike was = record {
  first = λ c. ap header_or_none (alike c).came ∙ was.first c;
  stands = λ c. alike_socket s.trace u c (alike c) (s.sockets c) (was.stands c);
  unmade = λ c r. ((was.unmade c r).0, (alike c).came ∙ (was.unmade c r).1);
}

-- a connection is closed
pub closed : (c : ConnectionId) (s : Scene) → Doored s → Doored (with_socket c None s)
closed c s was = record {
  first = was.first;
  stands = λ n. by_test (c.0 == n) (λ e. rw e tt) (λ e. rw e (was.stands n));
  unmade = λ n r. (by_test (c.0 == n) (λ e. rw e refl) (λ e. rw e (was.unmade n r).0), (was.unmade n r).1);
}

pub handed : (e : Event) (s : Scene) → ((c : ℕ) → is_about e c ≡ false) → Doored s → Doored (hand e s)
handed e s none was = by_answer (refuses s.trace e)
  where
    by_answer : (b : Bool) → Doored (if b then say refused s else with_trace (handled s.id s.trace (step_of e)) s)
    by_answer true = said (refused ∷ []) s was
    by_answer false = grown s (handled s.id s.trace (step_of e)) (λ c. record {
      came = ins_handled s.id s.trace e c ∙ came_other e c (ins s.trace c) (none c);
      over = over_handled s.id s.trace e c (none c);
    }) was

-- the change of one connection that was made, and of no other
pub record Changed (s u : Scene) (c : ℕ) : Type 0 where
  pub last : u.last ≡ s.last
  pub others : (n : ℕ) → (c == n) ≡ false → (u.sockets n ≡ s.sockets n) × Alike s.trace u.trace n
  pub first : header_or_none (ins u.trace c) ≡ true
  pub stands : AtSocket u.trace c (u.sockets c)

pub changed : (s u : Scene) (c : ℕ) (k : Socket) → s.sockets c ≡ Some k → Changed s u c → Doored s → Doored u
changed s u c k known change was = record {
  first = λ n. by_test (c == n)
      (λ e. subst (λ (m : ℕ). header_or_none (ins u.trace m) ≡ true) (eqb-true c n e) change.first)
      (λ e. ap header_or_none (change.others n e).1.came ∙ was.first n);
  stands = λ n. by_test (c == n)
      (λ e. subst (λ (m : ℕ). AtSocket u.trace m (u.sockets m)) (eqb-true c n e) change.stands)
      (λ e. subst (λ (o : Option Socket). AtSocket u.trace n o) (sym (change.others n e).0) (alike_socket s.trace u.trace n (change.others n e).1 (s.sockets n) (was.stands n)));
  unmade = λ n r. let before : rises n s.last ≡ true = subst (λ (l : Option ℕ). rises n l ≡ true) change.last r
      in by_test (c == n)
      (λ e. absurd (is_open (s.sockets n) (subst (λ (m : ℕ). s.sockets m ≡ Some k) (eqb-true c n e) known) (was.unmade n before).0))
      (λ e. ((change.others n e).0 ∙ (was.unmade n before).0, (change.others n e).1.came ∙ (was.unmade n before).1));
}
  where
    is_open : (o : Option Socket) → o ≡ Some k → o ≡ None → ⊥
    is_open o some none = let e : Some k ≡ None = sym some ∙ none in absurd cc
