-- The bytes of a step, read in pieces, have the effect that they have as a whole.
use Rattle.std.proofs.Common.{◌≡◌, ◌∙◌, sym, ap, refl, subst, ℕ, Bool, true, false, List, [], ◌∷◌, ◌++◌, length, append_assoc, arith}
use Rattle.std.specs.Prelude.{◌==◌, map, Option, Some, None, option_map, if◌then◌else◌}
use Rattle.std.proofs.lemmas.Bool.{eqb-true}
use Rattle.std.proofs.lemmas.Bool.Decides.{nat_tests}
use Rattle.amqp_model.specs.declared.item.Item.{Item}
use Rattle.amqp_frames.specs.Cuts.{Cuts}
use Rattle.amqp_frames.proofs.Streams.{cuts_append}
use Rattle.router_trace.specs.declared.event.ConnectionId.{ConnectionId}
use Rattle.router_trace.specs.declared.event.Event.{Event}
use Rattle.router_trace.specs.declared.event.Event.TheVariants as event
use Rattle.router_trace.specs.Trace.{step_of}
use Rattle.router_trace.specs.Refusing.{refuses}
use Rattle.core_door.specs.declared.door.Door.{Door as DoorState}
use Rattle.core_door.specs.Door.{Verdict, says, passes, ends, door, door_after}
use Rattle.state_connections.proofs.Lists.{by_test}
use Rattle.core_player.specs.declared.line.Line.TheVariants as line
use Rattle.core_player.specs.declared.socket.Socket.{Socket}
use Rattle.core_player.specs.declared.player.Player.{Player}
use Rattle.core_player.specs.Script.{Scene, refused, say, say_all, out_line, with_socket, with_trace, stream_of, hand, judged_by, enter_at, enter_by, enter, enter_all, Reads, BytesCome}
use Rattle.core_player.specs.Playing.{Follows, IsRead, IsReadOne, Continues, seen}
use Rattle.core_player.proofs.Keeping.{Keeps, enter_all_keeps, same}
use Rattle.core_player.proofs.Streams.{wrong_more, further}
use Rattle.core_machine.specs.Meaning.{Meaning}

-- no bytes are left
pub nothing_left : (bytes : List ℕ) → (length bytes == 0) ≡ true → bytes ≡ []
nothing_left [] is = refl
nothing_left (x ∷ bytes) is = absurd (grind (arith, nat_tests, is))

module _ {M : Type 0} (m : Meaning M) where
  -- What a connection's reader keeps doesn't affect its items.

  abbrev with_sockets : (ℕ → Option Socket) → Scene → Scene
  with_sockets f s = record { id = s.id; config = s.config; trace = s.trace; last = s.last; sockets = f; lines = s.lines }

  scenes_same : (s : Scene) (f g : ℕ → Option Socket) → ((n : ℕ) → f n ≡ g n) → with_sockets f s ≡ with_sockets g s
  scenes_same s f g h = λ j. with_sockets (λ n. h n j) s

  abbrev flowing : List ℕ → Bool → Option Socket → Option Socket
  flowing rest ended o = option_map (λ k. stream_of k rest ended) o

  abbrev flow : ConnectionId → List ℕ → Bool → Scene → Scene
  flow c rest ended s = record { id = s.id; config = s.config; trace = s.trace; last = s.last; sockets = λ n. if c.0 == n then flowing rest ended (s.sockets n) else s.sockets n; lines = s.lines }

  flow_hand : (c : ConnectionId) (r : List ℕ) (b : Bool) (e : Event) (s : Scene) → flow c r b (hand m.next e s) ≡ hand m.next e (flow c r b s)
  flow_hand c r b e s = pick (refuses s.trace e)
    where
      pick : (x : Bool)
          → flow c r b (if x then say refused s else with_trace (m.next s.id s.trace (step_of e)) s)
          ≡ (if x then say refused (flow c r b s) else with_trace (m.next s.id s.trace (step_of e)) (flow c r b s))
      pick true = refl
      pick false = refl

  flow_socket : (c : ConnectionId) (r : List ℕ) (b : Bool) (k : Option Socket) (s : Scene) → flow c r b (with_socket c k s) ≡ with_socket c (flowing r b k) (flow c r b s)
  flow_socket c r b k s =
      scenes_same s (flow c r b (with_socket c k s)).sockets (with_socket c (flowing r b k) (flow c r b s)).sockets
      (λ n. by_test (c.0 == n) (λ t. rw t refl) (λ t. rw t refl))

  flow_judged : (c : ConnectionId) (r : List ℕ) (b : Bool) (i : Item) (k : Socket) (d : DoorState) (s : Scene) (v : Verdict)
      → flow c r b (judged_by m.next c i k d s v) ≡ judged_by m.next c i (stream_of k r b) d (flow c r b s) v
  flow_judged c r b i k d s (says items) = ap (say_all (map (out_line c) items)) (flow_socket c r b (Some (record { door = Some (door_after d i); reader = k.reader })) s)
  flow_judged c r b i k d s (passes user) =
      let inside : Scene = with_socket c (Some (record { door = None; reader = k.reader })) s
      in let up : Event = event.Up c (record { user = user; role = d.role })
      in flow_hand c r b (event.Item c i) (hand m.next up inside)
      ∙ ap (hand m.next (event.Item c i)) (flow_hand c r b up inside ∙ ap (hand m.next up) (flow_socket c r b (Some (record { door = None; reader = k.reader })) s))
  flow_judged c r b i k d s (ends items) = ap (λ (u : Scene). say (line.End c) (say_all (map (out_line c) items) u)) (flow_socket c r b None s)

  flow_enter_by : (c : ConnectionId) (r : List ℕ) (b : Bool) (i : Item) (s : Scene) (o : Option Socket) → flow c r b (enter_by m.next c i s o) ≡ enter_by m.next c i (flow c r b s) (flowing r b o)
  flow_enter_by c r b i s None = refl
  flow_enter_by c r b i s (Some k) = by_door k.door
    where
      by_door : (d : Option DoorState) → flow c r b (enter_at m.next c i k s d) ≡ enter_at m.next c i (stream_of k r b) (flow c r b s) d
      by_door None = flow_hand c r b (event.Item c i) s
      by_door (Some d) = flow_judged c r b i k d s (door d i)

  flow_here : (c : ConnectionId) (r : List ℕ) (b : Bool) (s : Scene) → (flow c r b s).sockets c.0 ≡ flowing r b (s.sockets c.0)
  flow_here c r b s = let here : (c.0 == c.0) ≡ true = same c.0 in rw here refl

  flow_enter : (c : ConnectionId) (r : List ℕ) (b : Bool) (i : Item) (s : Scene) → flow c r b (enter m.next c i s) ≡ enter m.next c i (flow c r b s)
  flow_enter c r b i s = flow_enter_by c r b i s (s.sockets c.0) ∙ ap (λ (o : Option Socket). enter_by m.next c i (flow c r b s) o) (sym (flow_here c r b s))

  flow_all : (c : ConnectionId) (r : List ℕ) (b : Bool) (is : List Item) (s : Scene) → flow c r b (enter_all m.next c is s) ≡ enter_all m.next c is (flow c r b s)
  flow_all c r b [] s = refl
  flow_all c r b (i ∷ is) s = flow_all c r b is (enter m.next c i s) ∙ ap (enter_all m.next c is) (flow_enter c r b i s)

  -- the last change counts
  flow_twice : (c : ConnectionId) (r q : List ℕ) (b a : Bool) (s : Scene) → flow c r b (flow c q a s) ≡ flow c r b s
  flow_twice c r q b a s =
      scenes_same s (flow c r b (flow c q a s)).sockets (flow c r b s).sockets (λ n. by_test (c.0 == n) (λ t. rw t (twice (s.sockets n))) (λ t. rw t refl))
    where
      twice : (o : Option Socket) → flowing r b (flowing q a o) ≡ flowing r b o
      twice None = refl
      twice (Some k) = refl

  -- a closed connection has no reader
  flow_closed : (c : ConnectionId) (r : List ℕ) (b : Bool) (s : Scene) → s.sockets c.0 ≡ None → flow c r b s ≡ s
  flow_closed c r b s none =
      scenes_same s (flow c r b s).sockets s.sockets
      (λ n. by_test (c.0 == n)
      (λ t. rw t (subst (λ (x : ℕ). flowing r b (s.sockets x) ≡ s.sockets x) (eqb-true c.0 n t) (ap (flowing r b) none ∙ sym none)))
      (λ t. rw t refl))

  -- an open connection's reader
  flow_open : (c : ConnectionId) (k : Socket) (r : List ℕ) (b : Bool) (s : Scene) → s.sockets c.0 ≡ Some k → with_socket c (Some (stream_of k r b)) s ≡ flow c r b s
  flow_open c k r b s is =
      scenes_same s (with_socket c (Some (stream_of k r b)) s).sockets (flow c r b s).sockets
      (λ n. by_test (c.0 == n)
      (λ t. rw t (subst (λ (x : ℕ). Some (stream_of k r b) ≡ flowing r b (s.sockets x)) (eqb-true c.0 n t) (sym (ap (flowing r b) is))))
      (λ t. rw t refl))

  -- Items one after another.

  enter_more : (c : ConnectionId) (xs ys : List Item) (s : Scene) → enter_all m.next c (xs ++ ys) s ≡ enter_all m.next c ys (enter_all m.next c xs s)
  enter_more c [] ys s = refl
  enter_more c (x ∷ xs) ys s = enter_more c xs ys (enter m.next c x s)

  -- the items of a closed connection are dropped
  closed_enter : (c : ConnectionId) (is : List Item) (s : Scene) → s.sockets c.0 ≡ None → enter_all m.next c is s ≡ s
  closed_enter c [] s none = refl
  closed_enter c (i ∷ is) s none =
      let here : enter m.next c i s ≡ s = ap (enter_by m.next c i s) none
      in ap (enter_all m.next c is) here ∙ closed_enter c is s none

  -- Bytes that were read on an open connection, and then more of them.

  -- the scene after them
  behind : (c : ConnectionId) (s v : Scene) (k : Socket) (e : Bool) (xs : List Item) (mid : List ℕ) → s.sockets c.0 ≡ Some k → v ≡ enter_all m.next c xs (with_socket c (Some (stream_of k mid e)) s)
      → v ≡ flow c mid e (enter_all m.next c xs s)
  behind c s v k e xs mid is so = so ∙ ap (enter_all m.next c xs) (flow_open c k mid e s is) ∙ sym (flow_all c mid e xs s)

  -- the connection's reader after them
  keeping : (c : ConnectionId) (a : List ℕ) (s v : Scene) (k : Socket) (h : Reads m.next c a s k false v) → Keeps h.2 h.0 (v.sockets c.0)
  keeping c a s v k h =
      let here : (c.0 == c.0) ≡ true = same c.0
      in let read : Scene = with_socket c (Some (stream_of k h.2 h.0)) s
      in subst (λ (u : Scene). Keeps h.2 h.0 (u.sockets c.0)) (sym h.4) (enter_all_keeps m.next h.2 h.0 c h.1 read (rw here (refl, λ _. refl)))

  -- one more piece
  pub reads_more : (c : ConnectionId) (a b : List ℕ) (s v w : Scene) (k l : Socket) → s.sockets c.0 ≡ Some k → Reads m.next c a s k false v → v.sockets c.0 ≡ Some l → l.reader.failed ≡ false
      → Reads m.next c b v l false w → Reads m.next c (a ++ b) s k false w
  reads_more c a b s v w k l is h at works more =
      let keeps : Keeps h.2 h.0 (Some l) = subst (λ (o : Option Socket). Keeps h.2 h.0 o) at (keeping c a s v k h)
      in let goes : h.0 ≡ false = sym keeps.0 ∙ works
      in let before : Cuts false (k.reader.rest ++ a) h.1 h.2 = subst (λ (x : Bool). Cuts x (k.reader.rest ++ a) h.1 h.2) goes h.3
      in let cut : Cuts more.0 ((k.reader.rest ++ a) ++ b) (h.1 ++ more.1) more.2
      = cuts_append more.0 (k.reader.rest ++ a) h.1 h.2 b more.1 more.2 before.0 (subst (λ (bs : List ℕ). Cuts more.0 (bs ++ b) more.1 more.2) (keeps.1 goes) more.3)
      in let q : Scene = enter_all m.next c h.1 s
      in (
        more.0,
        h.1 ++ more.1,
        more.2,
        subst (λ (bs : List ℕ). Cuts more.0 bs (h.1 ++ more.1) more.2) (append_assoc k.reader.rest a b) cut,
        more.4
            ∙ ap (enter_all m.next c more.1)
            (flow_open c l more.2 more.0 v at
            ∙ ap (flow c more.2 more.0) (behind c s v k h.0 h.1 h.2 is h.4)
            ∙ flow_twice c more.2 h.2 more.0 h.0 q
            ∙ flow_all c more.2 more.0 h.1 s)
            ∙ sym (enter_more c h.1 more.1 (flow c more.2 more.0 s))
            ∙ ap (enter_all m.next c (h.1 ++ more.1)) (sym (flow_open c k more.2 more.0 s is)),
      )

  -- a connection on which nothing more is read: it is closed, or its stream ended
  abbrev pub Silent : Option Socket → Type 0
  Silent None = Unit {0}
  Silent (Some k) = k.reader.failed ≡ true

  none_flows : (r : List ℕ) (b : Bool) (o : Option Socket) → flowing r b o ≡ None → o ≡ None
  none_flows r b None h = refl
  none_flows r b (Some k) h = let e : Some (stream_of k r b) ≡ None = h in absurd cc

  -- what a stream that ended keeps isn't seen
  ended_follows : (p : Player M) (c : ConnectionId) (r q : List ℕ) (s : Scene) → Follows m p (flow c r true s) → Follows m p (flow c q true s)
  ended_follows p c r q s f = record {
    core = f.core;
    started = f.started;
    named = f.named;
    config = f.config;
    last = f.last;
    sockets = λ n. f.sockets n ∙ by_test (c.0 == n) (λ t. rw t (alike (s.sockets n))) (λ t. rw t refl);
    lines = f.lines;
  }
    where
      alike : (o : Option Socket) → seen (flowing r true o) ≡ seen (flowing q true o)
      alike None = refl
      alike (Some k) = refl

  -- the bytes that come then are dropped
  pub reads_over : (p : Player M) (c : ConnectionId) (a b : List ℕ) (s v : Scene) (k : Socket) → s.sockets c.0 ≡ Some k → Reads m.next c a s k false v → Silent (v.sockets c.0) → Follows m p v
      → (u : Scene) × Reads m.next c (a ++ b) s k false u × Follows m p u
  reads_over p c a b s v k is h silent follows = by_socket (v.sockets c.0) refl silent
    where
      whole : (e : Bool) (xs : List Item) (r : List ℕ) → Cuts e ((k.reader.rest ++ a) ++ b) xs r → Cuts e (k.reader.rest ++ (a ++ b)) xs r
      whole e xs r cut = subst (λ (bs : List ℕ). Cuts e bs xs r) (append_assoc k.reader.rest a b) cut

      by_socket : (o : Option Socket) → v.sockets c.0 ≡ o → Silent o → (u : Scene) × Reads m.next c (a ++ b) s k false u × Follows m p u
      by_socket None at none =
          let q : Scene = enter_all m.next c h.1 s
          in let after : v ≡ flow c h.2 h.0 q = behind c s v k h.0 h.1 h.2 is h.4
          in let gone : q.sockets c.0 ≡ None
          = none_flows h.2 h.0 (q.sockets c.0) (sym (flow_here c h.2 h.0 q) ∙ ap (λ (u : Scene). u.sockets c.0) (sym after) ∙ at)
          in let more = further h.0 (k.reader.rest ++ a) h.1 h.2 b h.3
          in (
            v,
            (
              more.0,
              h.1 ++ more.1,
              more.2,
              whole more.0 (h.1 ++ more.1) more.2 more.3,
              after
                  ∙ flow_closed c h.2 h.0 q gone
                  ∙ sym (closed_enter c more.1 q gone)
                  ∙ ap (enter_all m.next c more.1) (sym (flow_closed c more.2 more.0 q gone) ∙ flow_all c more.2 more.0 h.1 s)
                  ∙ sym (enter_more c h.1 more.1 (flow c more.2 more.0 s))
                  ∙ ap (enter_all m.next c (h.1 ++ more.1)) (sym (flow_open c k more.2 more.0 s is)),
            ),
            follows,
          )
      by_socket (Some l) at failed =
          let q : Scene = enter_all m.next c h.1 s
          in let keeps : Keeps h.2 h.0 (Some l) = subst (λ (o : Option Socket). Keeps h.2 h.0 o) at (keeping c a s v k h)
          in let over : h.0 ≡ true = sym keeps.0 ∙ failed
          in let after : v ≡ flow c h.2 true q = behind c s v k h.0 h.1 h.2 is h.4 ∙ ap (λ (x : Bool). flow c h.2 x q) over
          in let cut : Cuts true (k.reader.rest ++ a) h.1 h.2 = subst (λ (x : Bool). Cuts x (k.reader.rest ++ a) h.1 h.2) over h.3
          in (
            flow c (h.2 ++ b) true q,
            (
              true,
              h.1,
              h.2 ++ b,
              whole true h.1 (h.2 ++ b) (wrong_more (k.reader.rest ++ a) h.1 h.2 b cut),
              flow_all c (h.2 ++ b) true h.1 s ∙ ap (enter_all m.next c h.1) (sym (flow_open c k (h.2 ++ b) true s is)),
            ),
            ended_follows p c h.2 (h.2 ++ b) q (subst (λ (u : Scene). Follows m p u) after follows),
          )

  -- nothing more comes
  pub reads_all : (c : ConnectionId) (a b : List ℕ) (s v : Scene) (k : Socket) → a ≡ b → Reads m.next c a s k false v → Reads m.next c b s k false v
  reads_all c a b s v k e h = subst (λ (bs : List ℕ). Reads m.next c bs s k false v) e h

  -- A piece is read.

  -- ... which gives no items
  silent_one : (c : ConnectionId) (piece : List ℕ) (s : Scene) (k : Socket) (b : Bool) (p : Player M) → k.reader.failed ≡ b → IsReadOne m c piece s k b p None → (k.reader.failed ≡ true) × Follows m p s
  silent_one c piece s k true p is read = (is, read)
  silent_one c piece s k false p is read = absurd read

  pub silent_read : (c : ConnectionId) (piece : List ℕ) (s : Scene) (o : Option Socket) (p : Player M) → IsRead m c piece s o p None → Silent o × Follows m p s
  silent_read c piece s None p read = (tt, read)
  silent_read c piece s (Some k) p read = silent_one c piece s k k.reader.failed p refl read

  -- ... whose items are handled then
  record Piece (c : ConnectionId) (piece : List ℕ) (s : Scene) (o : Option Socket) (q : Player M) : Type 0 where
    pub socket : Socket
    pub is : o ≡ Some socket
    pub works : socket.reader.failed ≡ false
    pub scene : Scene
    pub reads : Reads m.next c piece s socket false scene
    pub follows : Follows m q scene

  piece_one : (c : ConnectionId) (piece : List ℕ) (s : Scene) (k : Socket) (b : Bool) (p q : Player M) (items : List Item) → k.reader.failed ≡ b → IsReadOne m c piece s k b p (Some items)
      → ((w : Scene) → Follows m p w → Follows m q (enter_all m.next c items w)) → Piece c piece s (Some k) q
  piece_one c piece s k true p q items is read enters = absurd read
  piece_one c piece s k false p q items ok read enters = record {
    socket = k;
    is = refl;
    works = ok;
    scene = enter_all m.next c items (with_socket c (Some (stream_of k read.1 read.0)) s);
    reads = (read.0, items, read.1, read.2, refl);
    follows = enters (with_socket c (Some (stream_of k read.1 read.0)) s) read.3;
  }

  piece_read : (c : ConnectionId) (piece : List ℕ) (s : Scene) (o : Option Socket) (p q : Player M) (items : List Item) → IsRead m c piece s o p (Some items)
      → ((w : Scene) → Follows m p w → Follows m q (enter_all m.next c items w)) → Piece c piece s o q
  piece_read c piece s None p q items read enters = absurd read
  piece_read c piece s (Some k) p q items read enters = piece_one c piece s k k.reader.failed p q items refl read enters

  -- a piece after others
  pub next_piece : (c : ConnectionId) (a piece : List ℕ) (s v : Scene) (k : Socket) (p q : Player M) (items : List Item) → s.sockets c.0 ≡ Some k → Reads m.next c a s k false v
      → IsRead m c piece v (v.sockets c.0) p (Some items) → ((w : Scene) → Follows m p w → Follows m q (enter_all m.next c items w))
      → (u : Scene) × Reads m.next c (a ++ piece) s k false u × Follows m q u
  next_piece c a piece s v k p q items is h read enters =
      let x : Piece c piece v (v.sockets c.0) q = piece_read c piece v (v.sockets c.0) p q items read enters
      in (x.scene, reads_more c a piece s v x.scene k x.socket is h x.is x.works x.reads, x.follows)

  come_one : (c : ConnectionId) (bytes : List ℕ) (s u : Scene) (o : Option Socket) (k : Socket) → o ≡ Some k → k.reader.failed ≡ false → Reads m.next c bytes s k false u → BytesCome m.next c bytes s o u
  come_one c bytes s u o k is works h =
      subst (λ (x : Option Socket). BytesCome m.next c bytes s x u) (sym is) (subst (λ (b : Bool). Reads m.next c bytes s k b u) (sym works) h)

  pub all_pieces : (c : ConnectionId) (first others bytes : List ℕ) (s : Scene) (p q r : Player M) (items : List Item) → bytes ≡ first ++ others → IsRead m c first s (s.sockets c.0) p (Some items)
      → ((w : Scene) → Follows m p w → Follows m q (enter_all m.next c items w)) → Continues m c others q r
      → (u : Scene) × BytesCome m.next c bytes s (s.sockets c.0) u × Follows m r u
  all_pieces c first others bytes s p q r items whole read enters continues =
      let x : Piece c first s (s.sockets c.0) q = piece_read c first s (s.sockets c.0) p q items read enters
      in let y : (u : Scene) × Reads m.next c (first ++ others) s x.socket false u × Follows m r u = continues s x.scene x.socket first x.is x.reads x.follows
      in (y.0, come_one c bytes s y.0 (s.sockets c.0) x.socket x.is x.works (reads_all c (first ++ others) bytes s y.0 x.socket (sym whole) y.1), y.2)
