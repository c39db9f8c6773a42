-- Connections are made: the effect on the one that is made, and on the others.
use Rattle.std.proofs.Common.{◌≡◌, sym, ap, refl, subst, true≢false, ℕ, true, false, ◌<◌, ◌≤◌, List, [], ◌∷◌, ◌++◌, arith}
use Rattle.std.specs.Prelude.{◌==◌, Option, Some, None}
use Rattle.std.proofs.lemmas.Bool.{eqb-true, ltb-true, leb-true, le-leb}
use Rattle.amqp_model.specs.declared.item.Item.{Item}
use Rattle.amqp_frames.proofs.Steps.{front_nothing}
use Rattle.router_trace.specs.declared.event.ConnectionId.{ConnectionId}
use Rattle.router_trace.specs.declared.event.PeerRole.{PeerRole}
use Rattle.core_door.specs.declared.door.Door.{Door as DoorState}
use Rattle.core_player.specs.declared.socket.Socket.{Socket}
use Rattle.router_trace.specs.Refusing.{rises, reaches}
use Rattle.core_player.specs.Listening.{door_for}
use Rattle.router_play.specs.Script.{Scene, made}
use Rattle.router_core.specs.Moves.{ins}
use Rattle.router_play.specs.Carrying.{door_says, passed, Begins}
use Rattle.state_connections.proofs.Lists.{by_test}
use Rattle.state_connections.proofs.Turns.{reach_up}
use Rattle.router_play.proofs.Levels.{same}
use Rattle.router_play.proofs.Entering.{Stands, Entered}
use Rattle.core_player.proofs.Keeping.{Keeps}
use Rattle.router_play.proofs.Stages.{Lost, Opened, Unmade}

-- Another connection is made.

made_entered : (d : ConnectionId) (role : PeerRole) (s : Scene) (c : ℕ) (D P : List Item → List Item) → (d.0 == c) ≡ false → Entered s c D P → Entered (made d role s) c D P
made_entered d role s c D P apart h = record { real = h.real; said = h.said; balance = h.balance; stands = rw apart h.stands }

made_socket : (G : Option Socket → Type 0) (d : ConnectionId) (role : PeerRole) (s : Scene) (c : ℕ) → (d.0 == c) ≡ false → G (s.sockets c) → G ((made d role s).sockets c)
made_socket G d role s c apart h = rw apart h

pub made_unmade : (d : ConnectionId) (role : PeerRole) (s : Scene) (c : ℕ) → (d.0 == c) ≡ false → Unmade s c → Unmade (made d role s) c
made_unmade d role s c apart h = record {
  entered = made_entered d role s c (λ m. []) (λ m. []) apart h.entered;
  socket = made_socket (λ o. o ≡ None) d role s c apart h.socket;
  unknown = h.unknown;
  silent = h.silent;
  kept = h.kept;
}

pub made_opened : (start : DoorState) (d : ConnectionId) (role : PeerRole) (s : Scene) (c : ℕ) (stream : List ℕ) → (d.0 == c) ≡ false → rises d.0 s.last ≡ true → Opened start s c stream → Opened start (made d role s) c stream
made_opened start d role s c stream apart rise h = record {
  ended = h.ended;
  items = h.items;
  rest = h.rest;
  cut = h.cut;
  reader = made_socket (λ o. Keeps h.rest h.ended o) d role s c apart h.reader;
  entered = made_entered d role s c (λ m. door_says start (h.items ++ m)) (λ m. passed start (h.items ++ m)) apart h.entered;
  reached = reach_up d.0 c s.last rise h.reached;
  kept = h.kept;
}

pub made_lost : (start : DoorState) (d : ConnectionId) (role : PeerRole) (s : Scene) (c : ℕ) (stream : List ℕ) → (d.0 == c) ≡ false → rises d.0 s.last ≡ true → Lost start s c stream → Lost start (made d role s) c stream
made_lost start d role s c stream apart rise h = record {
  ended = h.ended;
  items = h.items;
  rest = h.rest;
  cut = h.cut;
  entered = made_entered d role s c (λ m. door_says start h.items) (λ m. passed start h.items) apart h.entered;
  socket = made_socket (λ o. o ≡ None) d role s c apart h.socket;
  reached = reach_up d.0 c s.last rise h.reached;
  until = h.until;
}

-- a number that rises was not reached before
pub new_number : (d : ConnectionId) (c : ℕ) (last : Option ℕ) → rises d.0 last ≡ true → reaches c last ≡ true → (d.0 == c) ≡ false
new_number d c None rise reach = absurd (true≢false (sym reach))
new_number d c (Some l) rise reach = by_test (d.0 == c) (λ e. absurd (below d.0 c l (eqb-true d.0 c e) (ltb-true l d.0 rise) (leb-true c l reach))) (λ e. e)
  where
    below : (d c l : ℕ) → d ≡ c → l < d → c ≤ l → ⊥
    below d c l e h i = omega (arith, e)

-- The connection itself is made.
pub unmade_made : (d : ConnectionId) (role : PeerRole) (s : Scene) → Unmade s d.0 → Opened (door_for s.config role) (made d role s) d.0 []
unmade_made d role s h =
    let here : (d.0 == d.0) ≡ true = same d.0
    in let none : Stands h.entered.said s.trace d.0 (λ m. []) (λ m. []) None = subst (λ (o : Option Socket). Stands h.entered.said s.trace d.0 (λ m. []) (λ m. []) o) h.socket h.entered.stands
    in let quiet : h.entered.said ≡ [] = sym (none.0.silent [])
    in let came : ins s.trace d.0 ≡ [] = nothing (ins s.trace d.0) (none.0.begins [])
    in record {
      ended = false;
      items = [];
      rest = [];
      cut = (refl, front_nothing [] refl);
      reader = rw here (refl, λ _. refl);
      entered = record {
        real = h.entered.real;
        said = h.entered.said;
        balance = h.entered.balance;
        stands = rw here (record {
          speaks = λ m. ap (λ xs. xs ++ door_says (door_for s.config role) m) (sym quiet);
          lets = λ m. refl;
          unknown = h.unknown;
          none = came;
          silent = h.silent;
        });
      };
      reached = le-leb d.0 d.0 (omega arith);
      kept = h.kept;
    }
  where
    nothing : (xs : List Item) → Begins xs [] → xs ≡ []
    nothing [] h = refl
    nothing (x ∷ xs) h = let bad : x ∷ (xs ++ h.0) ≡ [] = h.1 in absurd cc
