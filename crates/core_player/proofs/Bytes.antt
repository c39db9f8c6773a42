-- The effect of received bytes on a script's scene.
use Rattle.std.proofs.Common.{◌≡◌, ◌∙◌, sym, ap, refl, subst, ℕ, Bool, true, false, List, [], ◌∷◌, ◌++◌}
use Rattle.std.specs.Prelude.{◌==◌, Option, Some, None, if◌then◌else◌}
use Rattle.std.specs.Ordering.{nat_cmp}
use Rattle.std.specs.BTreeMap.{get}
use Rattle.amqp_model.specs.declared.item.Item.{Item}
use Rattle.amqp_frames.specs.Cuts.{Cuts}
use Rattle.router_trace.specs.declared.event.ConnectionId.{ConnectionId}
use Rattle.core_player.specs.declared.line.Line.{Line}
use Rattle.core_player.specs.declared.socket.Socket.{Socket}
use Rattle.core_player.specs.declared.player.Player.{Player}
use Rattle.core_player.specs.Asking.{ReadsAt, ReadsOne}
use Rattle.core_player.proofs.Looks.{Elsewhere, elsewhere, look, alike, not_none, changed, unchanged, table_follows}
use Rattle.core_player.specs.Script.{Scene, refused, say, say_all, Reads, BytesCome, with_socket, stream_of}
use Rattle.core_player.specs.Playing.{Agrees, Follows, Look, look_at, seen, waiting, Said, IsRead, IsReadOne}
use Rattle.core_machine.specs.Meaning.{Meaning}

-- what waits in sockets that look alike
same_waiting : (k l : Socket) → look_at k ≡ look_at l → (x y : Bool) → k.reader.failed ≡ x → l.reader.failed ≡ y → waiting x k.reader.rest ≡ waiting y l.reader.rest
same_waiting k l one x y is so =
    ap (λ (b : Bool). waiting b k.reader.rest) (sym is) ∙ ap (λ (w : Look). w.stream) one ∙ ap (λ (b : Bool). waiting b l.reader.rest) so

some_waits : (a b : List ℕ) → Some a ≡ Some b → a ≡ b
some_waits a b e = cc

none_waits : (a : List ℕ) → None ≡ Some a → ⊥
none_waits a e = absurd cc

module _ {M : Type 0} (m : Meaning M) where
  -- appended lines, then more of them
  pub said_follows : (p q : Player M) (ls : List Line) (s : Scene) → Said p q ls → Follows m p s → Follows m q (say_all ls s)
  said_follows p q ls s said follows = record {
    core = subst (λ (k : M). Agrees m k s.trace) (sym said.core) follows.core;
    started = follows.started;
    named = ap m.id said.core ∙ follows.named;
    config = ap (λ r. r.now) said.config ∙ follows.config;
    last = said.last ∙ follows.last;
    sockets = λ c. ap (λ m. seen (get nat_cmp m c)) said.sockets ∙ follows.sockets c;
    lines = said.lines ∙ ap (λ ks. ks ++ ls) follows.lines;
  }

  -- bytes are read on a connection

  -- k is the connection's socket in the scene, and l the one that is read from
  read_one : (p q : Player M) (c : ConnectionId) (bytes : List ℕ) (s : Scene) (k l after : Socket) (x y : Bool) (read : Option (List Item))
      → Elsewhere p q → Follows m p s → get nat_cmp p.sockets c.0 ≡ Some l → look_at l ≡ look_at k → l.reader.failed ≡ x → k.reader.failed ≡ y
      → ReadsOne bytes l x after read → ((n : ℕ) → get nat_cmp q.sockets n ≡ (if c.0 == n then Some after else get nat_cmp p.sockets n)) → IsReadOne m c bytes s k y q read
  read_one p q c bytes s k l after true true None r follows here one is so reads rows =
      table_follows m p q s s.sockets r
      (λ n. ap seen (rows n ∙ ap (λ (w : Socket). if c.0 == n then Some w else get nat_cmp p.sockets n) reads ∙ unchanged c.0 (get nat_cmp p.sockets) l here n) ∙ follows.sockets n) follows
  read_one p q c bytes s k l after true true (Some items) r follows here one is so reads rows = absurd reads
  read_one p q c bytes s k l after true false read r follows here one is so reads rows = absurd (none_waits k.reader.rest (same_waiting l k one true false is so))
  read_one p q c bytes s k l after false true read r follows here one is so reads rows = absurd (none_waits l.reader.rest (sym (same_waiting l k one false true is so)))
  read_one p q c bytes s k l after false false None r follows here one is so reads rows = absurd reads
  read_one p q c bytes s k l after false false (Some items) r follows here one is so reads rows =
      let rest : l.reader.rest ≡ k.reader.rest = some_waits l.reader.rest k.reader.rest (same_waiting l k one false false is so)
      in let next : Socket = stream_of k reads.1 reads.0
      in (
        reads.0,
        reads.1,
        subst (λ (bs : List ℕ). Cuts reads.0 (bs ++ bytes) items reads.1) rest reads.2,
        table_follows m p q s (with_socket c (Some next) s).sockets r
            (changed c.0 (get nat_cmp p.sockets) (get nat_cmp q.sockets) s.sockets (Some after) (Some next) follows.sockets rows
            (ap (λ (x : Socket). seen (Some x)) reads.3
            ∙ ap (λ (w : Look). Some (look w.door (waiting reads.0 reads.1))) one))
            follows,
      )

  read_by : (p q : Player M) (c : ConnectionId) (bytes : List ℕ) (s : Scene) (o v : Option Socket) (read : Option (List Item)) → Elsewhere p q → Follows m p s → get nat_cmp p.sockets c.0 ≡ v → seen v ≡ seen o
      → ReadsAt c.0 bytes (get nat_cmp p.sockets) v (get nat_cmp q.sockets) read → IsRead m c bytes s o q read
  read_by p q c bytes s None None read r follows here alikes reads =
      subst (λ (x : Option (List Item)). IsRead m c bytes s None q x) (sym reads.0) (table_follows m p q s s.sockets r (λ n. ap seen (reads.1 n) ∙ follows.sockets n) follows)
  read_by p q c bytes s None (Some l) read r follows here alikes reads = absurd (not_none (look_at l) alikes)
  read_by p q c bytes s (Some k) None read r follows here alikes reads = absurd (not_none (look_at k) (sym alikes))
  read_by p q c bytes s (Some k) (Some l) read r follows here alikes reads =
      read_one p q c bytes s k l reads.0 l.reader.failed k.reader.failed read r follows here (alike l k alikes) refl refl reads.1 reads.2

  pub read_scene : (p q : Player M) (c : ConnectionId) (bytes : List ℕ) (s : Scene) (read : Option (List Item))
      → ReadsAt c.0 bytes (get nat_cmp p.sockets) (get nat_cmp p.sockets c.0) (get nat_cmp q.sockets) read
      → q.core ≡ p.core → q.config ≡ p.config → q.newest ≡ p.newest → q.lines.items ≡ p.lines.items → Follows m p s → IsRead m c bytes s (s.sockets c.0) q read
  read_scene p q c bytes s read reads core config last lines follows =
      read_by p q c bytes s (s.sockets c.0) (get nat_cmp p.sockets c.0) read (elsewhere p q core config last lines) follows refl (follows.sockets c.0) reads

  -- ... which refuses them: the same as if there were more of them

  none_read : (c : ConnectionId) (piece bytes : List ℕ) (s : Scene) (k : Socket) (failed : Bool) (p q : Player M) → IsReadOne m c piece s k failed p None → Said p q (refused ∷ [])
      → (u : Scene) × Reads m.next c bytes s k failed u × Follows m q u
  none_read c piece bytes s k true p q follows said = (say refused s, refl, said_follows p q (refused ∷ []) s said follows)
  none_read c piece bytes s k false p q follows said = absurd follows

  pub bytes_refused : (c : ConnectionId) (piece bytes : List ℕ) (s : Scene) (o : Option Socket) (p q : Player M) → IsRead m c piece s o p None → Said p q (refused ∷ [])
      → (u : Scene) × BytesCome m.next c bytes s o u × Follows m q u
  bytes_refused c piece bytes s None p q follows said = (say refused s, refl, said_follows p q (refused ∷ []) s said follows)
  bytes_refused c piece bytes s (Some k) p q read said = none_read c piece bytes s k k.reader.failed p q read said
