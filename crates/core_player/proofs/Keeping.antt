-- What a connection's socket keeps of its stream while its items are handled.
use Rattle.std.proofs.Common.{◌≡◌, ◌∙◌, sym, refl, subst, ℕ, Bool, true, false, List, [], ◌∷◌}
use Rattle.std.proofs.lemmas.Bool.{eq-eqb}
use Rattle.std.specs.Prelude.{◌==◌, Option, Some, None, if◌then◌else◌}
use Rattle.amqp_model.specs.declared.item.Item.{Item}
use Rattle.router_trace.specs.declared.event.ConnectionId.{ConnectionId}
use Rattle.router_trace.specs.declared.event.Peer.{Peer}
use Rattle.router_trace.specs.declared.event.Event.{Event}
use Rattle.router_trace.specs.declared.event.Event.TheVariants as event
use Rattle.router_trace.specs.Trace.{step_of}
use Rattle.router_trace.specs.Refusing.{refuses}
use Rattle.core_door.specs.declared.door.Door.{Door as DoorState}
use Rattle.core_door.specs.Door.{Verdict, says, passes, ends, door}
use Rattle.core_player.specs.declared.socket.Socket.{Socket}
use Rattle.core_player.specs.Script.{Next, Scene, say, refused, with_socket, with_trace, hand, judged_by, enter_at, enter_by, enter, enter_all}

pub same : (n : ℕ) → (n == n) ≡ true
same n = eq-eqb n n refl

abbrev pub Keeps : List ℕ → Bool → Option Socket → Type 0
Keeps rest ended None = Unit {0}
Keeps rest ended (Some k) = (k.reader.failed ≡ ended) × (ended ≡ false → k.reader.rest ≡ rest)

module _ (next : Next) where
  -- an event changes no connection
  pub hand_sockets : (e : Event) (s : Scene) (c : ℕ) → (hand next e s).sockets c ≡ s.sockets c
  hand_sockets e s c = pick (refuses s.trace e)
    where
      pick : (b : Bool) → (if b then say refused s else with_trace (next s.id s.trace (step_of e)) s).sockets c ≡ s.sockets c
      pick true = refl
      pick false = refl

  judged_keeps : (rest : List ℕ) (ended : Bool) (d : ConnectionId) (i : Item) (k : Socket) (dd : DoorState) (s : Scene) → Keeps rest ended (Some k) → (v : Verdict)
      → Keeps rest ended ((judged_by next d i k dd s v).sockets d.0)
  judged_keeps rest ended d i k dd s h (says items) = let here : (d.0 == d.0) ≡ true = same d.0 in rw here h
  judged_keeps rest ended d i k dd s h (passes user) =
      let p : Peer = record { user = user; role = dd.role }
      in let inside : Scene = with_socket d (Some (record { door = None; reader = k.reader })) s
      in let here : (d.0 == d.0) ≡ true = same d.0
      in subst (λ (o : Option Socket). Keeps rest ended o)
      (sym (hand_sockets (event.Item d i) (hand next (event.Up d p) inside) d.0 ∙ hand_sockets (event.Up d p) inside d.0))
      (rw here h)
  judged_keeps rest ended d i k dd s h (ends items) = let here : (d.0 == d.0) ≡ true = same d.0 in rw here tt

  enter_keeps : (rest : List ℕ) (ended : Bool) (d : ConnectionId) (i : Item) (s : Scene) (o : Option Socket) → s.sockets d.0 ≡ o → Keeps rest ended o
      → Keeps rest ended ((enter_by next d i s o).sockets d.0)
  enter_keeps rest ended d i s None is h = subst (λ (o : Option Socket). Keeps rest ended o) (sym is) h
  enter_keeps rest ended d i s (Some k) is h = by_door k.door
    where
      by_door : (o : Option DoorState) → Keeps rest ended ((enter_at next d i k s o).sockets d.0)
      by_door None = subst (λ (o : Option Socket). Keeps rest ended o) (sym (hand_sockets (event.Item d i) s d.0 ∙ is)) h
      by_door (Some dd) = judged_keeps rest ended d i k dd s h (door dd i)

  pub enter_all_keeps : (rest : List ℕ) (ended : Bool) (d : ConnectionId) (is : List Item) (s : Scene) → Keeps rest ended (s.sockets d.0) → Keeps rest ended ((enter_all next d is s).sockets d.0)
  enter_all_keeps rest ended d [] s h = h
  enter_all_keeps rest ended d (i ∷ is) s h = enter_all_keeps rest ended d is (enter next d i s) (enter_keeps rest ended d i s (s.sockets d.0) refl h)
