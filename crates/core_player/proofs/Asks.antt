-- The effect of a door's answer on a script's scene.
use Rattle.std.proofs.Common.{◌≡◌, ◌∙◌, sym, ap, refl, subst, ℕ}
use Rattle.std.specs.Prelude.{◌==◌, map, Option, Some, None, if◌then◌else◌}
use Rattle.std.specs.Ordering.{nat_cmp}
use Rattle.std.specs.BTreeMap.{get}
use Rattle.amqp_model.specs.declared.item.Item.{Item}
use Rattle.router_trace.specs.declared.event.ConnectionId.{ConnectionId}
use Rattle.router_trace.specs.declared.event.Peer.{Peer}
use Rattle.router_trace.specs.declared.event.Event.TheVariants as event
use Rattle.core_door.specs.declared.door.Door.{Door as DoorState}
use Rattle.core_player.specs.declared.line.Line.TheVariants as line
use Rattle.core_player.specs.declared.socket.Socket.{Socket}
use Rattle.core_player.specs.declared.socket.Asked.{Asked}
use Rattle.core_player.specs.declared.socket.Asked.TheVariants as asked
use Rattle.core_player.specs.declared.player.Player.{Player}
use Rattle.core_door.specs.Door.{Verdict, says, passes, ends, door, door_after}
use Rattle.core_player.specs.Script.{Scene, with_socket, say_all, say, out_line, hand, enter, enter_by, enter_at, judged_by}
use Rattle.core_player.specs.Asking.{IsAskedAt, IsVerdict, AsksAt, behind, follow}
use Rattle.router_trace.specs.Trace.{Trace}
use Rattle.core_machine.specs.Turns.{is_started}
use Rattle.core_player.specs.Playing.{Agrees, Follows, Look, look_at, seen}
use Rattle.core_player.proofs.Looks.{look, alike, not_none, changed, unchanged}
use Rattle.core_machine.specs.Meaning.{Meaning}

-- a socket whose door changed looks like another with that door and the same stream
with_door : (after l k : Socket) (d : Option DoorState) → after ≡ record { door = d; reader = l.reader } → look_at l ≡ look_at k
    → seen (Some after) ≡ seen (Some (record { door = d; reader = k.reader }))
with_door after l k d is same =
    ap (λ (x : Socket). seen (Some x)) is
    ∙ ap (λ (w : Look). Some (look d w.stream)) same

module _ {M : Type 0} (m : Meaning M) where
  -- a scene with this table of connections, from which the answer leads to another
  record Asks (c : ConnectionId) (i : Item) (new : ℕ → Option Socket) (a : Asked) (s goal : Scene) : Type 0 where
    pub after : Scene
    pub id : after.id ≡ s.id
    pub config : after.config ≡ s.config
    pub trace : after.trace ≡ s.trace
    pub last : after.last ≡ s.last
    pub lines : after.lines ≡ s.lines
    pub sockets : (n : ℕ) → seen (new n) ≡ seen (after.sockets n)
    pub leads : follow m.next c i a after ≡ goal

  -- k is the connection's socket in the scene, and l the one that is asked
  judged : (c : ConnectionId) (i : Item) (old new : ℕ → Option Socket) (a : Asked) (s : Scene) (k l after : Socket) (d : DoorState) (v : Verdict)
      → ((n : ℕ) → seen (old n) ≡ seen (s.sockets n)) → look_at l ≡ look_at k → IsVerdict i l d v after a → ((n : ℕ) → new n ≡ (if c.0 == n then behind a after else old n))
      → Asks c i new a s (judged_by m.next c i k d s v)
  judged c i old new (asked.Say ys) s k l after d (says items) same one is up = record {
    after = with_socket c (Some (record { door = Some (door_after d i); reader = k.reader })) s;
    id = refl;
    config = refl;
    trace = refl;
    last = refl;
    lines = refl;
    sockets = changed c.0 old new s.sockets (Some after) _ same up (with_door after l k (Some (door_after d i)) is.1 one);
    leads = ap (λ zs. say_all (map (out_line c) zs) (with_socket c (Some (record { door = Some (door_after d i); reader = k.reader })) s)) is.0;
  }
  judged c i old new (asked.Pass peer) s k l after d (passes user) same one is up = record {
    after = with_socket c (Some (record { door = None; reader = k.reader })) s;
    id = refl;
    config = refl;
    trace = refl;
    last = refl;
    lines = refl;
    sockets = changed c.0 old new s.sockets (Some after) _ same up (with_door after l k None is.1 one);
    leads = ap (λ (q : Peer). hand m.next (event.Item c i) (hand m.next (event.Up c q) (with_socket c (Some (record { door = None; reader = k.reader })) s))) is.0;
  }
  judged c i old new (asked.End ys) s k l after d (ends items) same one is up = record {
    after = with_socket c None s;
    id = refl;
    config = refl;
    trace = refl;
    last = refl;
    lines = refl;
    sockets = changed c.0 old new s.sockets None None same up refl;
    leads = ap (λ zs. say (line.End c) (say_all (map (out_line c) zs) (with_socket c None s))) is;
  }
  judged c i old new asked.Nobody s k l after d (says items) same one is up = absurd is
  judged c i old new asked.Nobody s k l after d (passes user) same one is up = absurd is
  judged c i old new asked.Nobody s k l after d (ends items) same one is up = absurd is
  judged c i old new asked.Router s k l after d (says items) same one is up = absurd is
  judged c i old new asked.Router s k l after d (passes user) same one is up = absurd is
  judged c i old new asked.Router s k l after d (ends items) same one is up = absurd is
  judged c i old new (asked.Say ys) s k l after d (passes user) same one is up = absurd is
  judged c i old new (asked.Say ys) s k l after d (ends items) same one is up = absurd is
  judged c i old new (asked.Pass peer) s k l after d (says items) same one is up = absurd is
  judged c i old new (asked.Pass peer) s k l after d (ends items) same one is up = absurd is
  judged c i old new (asked.End ys) s k l after d (says items) same one is up = absurd is
  judged c i old new (asked.End ys) s k l after d (passes user) same one is up = absurd is

  asked_at : (c : ConnectionId) (i : Item) (old new : ℕ → Option Socket) (a : Asked) (s : Scene) (k l after : Socket) (d : Option DoorState)
      → s.sockets c.0 ≡ Some k → ((n : ℕ) → seen (old n) ≡ seen (s.sockets n)) → look_at l ≡ look_at k → IsAskedAt i l d after a
      → ((n : ℕ) → new n ≡ (if c.0 == n then behind a after else old n)) → Asks c i new a s (enter_at m.next c i k s d)
  asked_at c i old new a s k l after (Some d) here same one is up = judged c i old new a s k l after d (door d i) same one is up
  asked_at c i old new asked.Router s k l after None here same one is up = record {
    after = s;
    id = refl;
    config = refl;
    trace = refl;
    last = refl;
    lines = refl;
    sockets = λ n. changed c.0 old new s.sockets (Some after) (Some k) same up (ap (λ (x : Socket). seen (Some x)) is ∙ ap Some one) n ∙ ap seen (unchanged c.0 s.sockets k here n);
    leads = refl;
  }
  asked_at c i old new asked.Nobody s k l after None here same one is up = absurd is
  asked_at c i old new (asked.Say ys) s k l after None here same one is up = absurd is
  asked_at c i old new (asked.Pass peer) s k l after None here same one is up = absurd is
  asked_at c i old new (asked.End ys) s k l after None here same one is up = absurd is

  asked_by : (c : ConnectionId) (i : Item) (old new : ℕ → Option Socket) (a : Asked) (s : Scene) (o q : Option Socket)
      → s.sockets c.0 ≡ o → seen q ≡ seen o → ((n : ℕ) → seen (old n) ≡ seen (s.sockets n)) → AsksAt c.0 i old q new a → Asks c i new a s (enter_by m.next c i s o)
  asked_by c i old new a s (Some k) (Some l) here alikes same asks =
      let one : look_at l ≡ look_at k = alike l k alikes
      in asked_at c i old new a s k l asks.0 k.door here same one
      (subst (λ (d : Option DoorState). IsAskedAt i l d asks.0 a) (ap (λ (w : Look). w.door) one) asks.1) asks.2
  asked_by c i old new a s (Some k) None here alikes same asks = absurd (not_none (look_at k) (sym alikes))
  asked_by c i old new a s None (Some l) here alikes same asks = absurd (not_none (look_at l) alikes)
  asked_by c i old new a s None None here alikes same asks = record {
    after = s;
    id = refl;
    config = refl;
    trace = refl;
    last = refl;
    lines = refl;
    sockets = λ n. ap seen (asks.1 n) ∙ same n;
    leads = ap (λ (b : Asked). follow m.next c i b s) asks.0;
  }

  -- after an answer a player agrees with a scene if the answer leads from it to where the item is handled
  pub asked_scene : (p q : Player M) (c : ConnectionId) (i : Item) (a : Asked) (s : Scene)
      → AsksAt c.0 i (get nat_cmp p.sockets) (get nat_cmp p.sockets c.0) (get nat_cmp q.sockets) a
      → q.core ≡ p.core → q.config ≡ p.config → q.newest ≡ p.newest → q.lines.items ≡ p.lines.items → Follows m p s
      → (after : Scene) × Follows m q after × (follow m.next c i a after ≡ enter m.next c i s)
  asked_scene p q c i a s asks core config newest lines follows =
      let w : Asks c i (get nat_cmp q.sockets) a s (enter_by m.next c i s (s.sockets c.0))
      = asked_by c i (get nat_cmp p.sockets) (get nat_cmp q.sockets) a s (s.sockets c.0) (get nat_cmp p.sockets c.0) refl (follows.sockets c.0) follows.sockets asks
      in (
        w.after,
        record {
          core = subst (λ (k : M). Agrees m k w.after.trace) (sym core) (subst (λ (t : Trace). Agrees m p.core t) (sym w.trace) follows.core);
          started = ap is_started w.trace ∙ follows.started;
          named = ap m.id core ∙ follows.named ∙ sym w.id;
          config = ap (λ r. r.now) config ∙ follows.config ∙ sym w.config;
          last = newest ∙ follows.last ∙ sym w.last;
          sockets = w.sockets;
          lines = lines ∙ follows.lines ∙ sym w.lines;
        },
        w.leads,
      )
