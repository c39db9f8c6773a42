-- The effect of takes and losses on a script's scene.
use Rattle.std.proofs.Common.{◌≡◌, ◌∙◌, sym, ap, refl, subst, ℕ, Bool, true, false, List, [], ◌∷◌, ◌++◌, length, take, drop, get_or, ◌+◌, ◌<◌}
use Rattle.std.specs.Prelude.{◌==◌, map, is_none, Option, Some, None, if◌then◌else◌}
use Rattle.std.proofs.lemmas.Bool.{eqb-true}
use Rattle.std.proofs.lemmas.List.{drop_more}
use Rattle.std.specs.Ordering.{nat_cmp}
use Rattle.std.specs.BTreeMap.{get}
use Rattle.router_trace.specs.declared.event.ConnectionId.{ConnectionId}
use Rattle.core_door.specs.declared.door.Door.{Door as DoorState}
use Rattle.core_player.specs.declared.socket.Socket.{Socket}
use Rattle.core_player.specs.declared.player.Player.{Player}
use Rattle.core_player.specs.declared.script.Step.{Step}
use Rattle.core_player.specs.declared.sockets.Parted.{Parted}
use Rattle.core_player.specs.declared.sockets.Parted.TheVariants as parted
use Rattle.core_machine.specs.declared.answers.Batch.{Batch}
use Rattle.amqp_model.specs.declared.item.Item.{Item}
use Rattle.router_trace.specs.Trace.{Entry, Took}
use Rattle.router_trace.specs.Connection.{Connection, conn}
use Rattle.core_machine.specs.Turns.{is_started}
use Rattle.core_machine.specs.Meaning.{IsBatchOf}
use Rattle.core_machine.specs.Moves.{IsNext, Taking, taking, took_one, waiting_of}
use Rattle.core_player.specs.Script.{Scene, Next, with_socket, with_trace, say_all, out_line, lose, lose_by, told, is_last, close_if, take_one, take_all, AllInTurn, Takes, Flushes, Plays}
use Rattle.core_player.specs.Playing.{Agrees, Follows, Look, look_at, seen, PartsAt, part_by}
use Rattle.core_player.proofs.Looks.{alike, not_none}
use Rattle.state_connections.proofs.Lists.{by_test}
use Rattle.core_machine.specs.Meaning.{Meaning}

-- what holds only of a failed router doesn't hold of one that works
pub back : (a b : Bool) → (a ≡ true → b ≡ true) → b ≡ false → a ≡ false
back true b h e = sym (h refl) ∙ e
back false b h e = refl

-- a batch has the first items of the outbox
batch_items : (o : Option Connection) (b : Batch) → IsBatchOf o 64 b → b.items.items ≡ take 64 (waiting_of o)
batch_items None b is = absurd is
batch_items (Some v) b is = is.in_order

batch_last : (o : Option Connection) (b : Batch) → IsBatchOf o 64 b → b.ended ≡ is_last (length b.items.items) o
batch_last None b is = absurd is
batch_last (Some v) b is = is.gone

pub taken_scene : (c : ConnectionId) (b : Batch) (s : Scene) → IsBatchOf (conn s.trace c.0) 64 b
    → close_if b.ended c (say_all (map (out_line c) b.items.items) (with_trace (took_one (taking c) s.trace) s)) ≡ take_one (taking c) s
taken_scene c b s is =
    let items : b.items.items ≡ take 64 (waiting_of (conn s.trace c.0)) = batch_items (conn s.trace c.0) b is
    in ap (λ (x : Bool). close_if x c (say_all (map (out_line c) b.items.items) (with_trace (took_one (taking c) s.trace) s))) (batch_last (conn s.trace c.0) b is)
    ∙ ap (λ (ys : List Item). close_if (is_last (length ys) (conn s.trace c.0)) c (say_all (map (out_line c) ys) (with_trace (took_one (taking c) s.trace) s))) items

-- one more take
pub take_all_more : (xs : List Taking) (x : Taking) (s : Scene) → take_all (xs ++ x ∷ []) s ≡ take_one x (take_all xs s)
take_all_more [] x s = refl
take_all_more (y ∷ ys) x s = take_all_more ys x (take_one y s)

pub turns_more : (xs : List Taking) (x : Taking) (s : Scene) → AllInTurn xs s → IsNext (take_all xs s).trace x → AllInTurn (xs ++ x ∷ []) s
turns_more [] x s turns next = (next, turns)
turns_more (y ∷ ys) x s turns next = (turns.0, turns_more ys x (take_one y s) turns.1 next)

-- one more step, then the rest
pub plays_more : (next : Next) (steps : List Step) (i : ℕ) (x : Step) (s mid after u : Scene) → x ≡ get_or steps i x → i < length steps
    → Takes next x s mid → Flushes mid after → Plays next (drop (i + 1) steps) after u → Plays next (drop i steps) s u
plays_more next steps i x s mid after u is lt takes flushes rest =
    subst (λ (ys : List Step). Plays next ys s u) (sym (drop_more steps i x lt ∙ ap (λ y. y ∷ drop (i + 1) steps) (sym is))) (mid, after, takes, flushes, rest)

module _ {M : Type 0} (m : Meaning M) where
  -- a scene with this table of connections, from which a loss leads to another
  record Parts (c : ConnectionId) (new : ℕ → Option Socket) (r : Parted) (s goal : Scene) : Type 0 where
    pub after : Scene
    pub id : after.id ≡ s.id
    pub config : after.config ≡ s.config
    pub trace : after.trace ≡ s.trace
    pub last : after.last ≡ s.last
    pub lines : after.lines ≡ s.lines
    pub sockets : (n : ℕ) → seen (new n) ≡ seen (after.sockets n)
    pub leads : part_by m.next c r after ≡ goal

  parted_at : (c : ConnectionId) (old new : ℕ → Option Socket) (r : Parted) (s : Scene) (o : Option Socket)
      → s.sockets c.0 ≡ o → ((n : ℕ) → seen (old n) ≡ seen (s.sockets n)) → PartsAt o r → ((n : ℕ) → new n ≡ (if c.0 == n then None else old n))
      → Parts c new r s (lose_by m.next c s o)
  parted_at c old new r s None here same is up = record {
    after = s;
    id = refl;
    config = refl;
    trace = refl;
    last = refl;
    lines = refl;
    sockets = λ n. ap seen (up n) ∙ unchanged c.0 s.sockets (old n) here n (same n);
    leads = ap (λ (q : Parted). part_by m.next c q s) is;
  }
    where
      unchanged : (c : ℕ) (f : ℕ → Option Socket) (v : Option Socket) → f c ≡ None → (n : ℕ) → seen v ≡ seen (f n) → seen (if c == n then None else v) ≡ seen (f n)
      unchanged c f v e n h = by_test (c == n) (λ x. rw x (ap seen (sym e ∙ ap f (eqb-true c n x)))) (λ x. rw x h)
  parted_at c old new r s (Some k) here same is up = record {
    after = with_socket c None s;
    id = refl;
    config = refl;
    trace = refl;
    last = refl;
    lines = refl;
    sockets = λ n. ap seen (up n) ∙ two (c.0 == n) (old n) (s.sockets n) (same n);
    leads = ap (λ (q : Parted). part_by m.next c q (with_socket c None s)) is ∙ by_door k.door;
  }
    where
      two : (b : Bool) (v w : Option Socket) → seen v ≡ seen w → seen (if b then None else v) ≡ seen (if b then None else w)
      two true v w e = refl
      two false v w e = e

      by_door : (d : Option DoorState) → part_by m.next c (if is_none d then parted.Passed else parted.AtDoor) (with_socket c None s) ≡ told m.next c (with_socket c None s) d
      by_door None = refl
      by_door (Some d) = refl

  parts_alike : (r : Parted) (o q : Option Socket) → seen o ≡ seen q → PartsAt o r → PartsAt q r
  parts_alike r None None e is = is
  parts_alike r None (Some l) e is = absurd (not_none (look_at l) (sym e))
  parts_alike r (Some k) None e is = absurd (not_none (look_at k) e)
  parts_alike r (Some k) (Some l) e is = is ∙ ap (λ (w : Look). if is_none w.door then parted.Passed else parted.AtDoor) (alike k l e)

  pub parted_scene : (p q : Player M) (c : ConnectionId) (r : Parted) (s : Scene)
      → PartsAt (get nat_cmp p.sockets c.0) r → ((n : ℕ) → get nat_cmp q.sockets n ≡ (if c.0 == n then None else get nat_cmp p.sockets n))
      → q.core ≡ p.core → q.config ≡ p.config → q.newest ≡ p.newest → q.lines.items ≡ p.lines.items → Follows m p s
      → (after : Scene) × Follows m q after × (part_by m.next c r after ≡ lose m.next c s)
  parted_scene p q c r s parts rows core config newest lines follows =
      let found : PartsAt (s.sockets c.0) r = parts_alike r (get nat_cmp p.sockets c.0) (s.sockets c.0) (follows.sockets c.0) parts
      in let w : Parts c (get nat_cmp q.sockets) r s (lose_by m.next c s (s.sockets c.0))
      = parted_at c (get nat_cmp p.sockets) (get nat_cmp q.sockets) r s (s.sockets c.0) refl follows.sockets found rows
      in (
        w.after,
        record {
          core = subst (λ (k : M). Agrees m k w.after.trace) (sym core) (subst (λ (t : List Entry). Agrees m p.core t) (sym w.trace) follows.core);
          started = ap is_started w.trace ∙ follows.started;
          named = ap m.id core ∙ follows.named ∙ sym w.id;
          config = ap (λ r. r.now) config ∙ follows.config ∙ sym w.config;
          last = newest ∙ follows.last ∙ sym w.last;
          sockets = w.sockets;
          lines = lines ∙ follows.lines ∙ sym w.lines;
        },
        w.leads,
      )

  pub taken_follows : (p q : Player M) (c : ConnectionId) (b : Batch) (s : Scene) → Follows m p s
      → Agrees m q.core (Took c.0 (length b.items.items) ∷ s.trace) → IsBatchOf (conn s.trace c.0) 64 b
      → m.id q.core ≡ m.id p.core → q.config ≡ p.config → q.sockets ≡ p.sockets → q.newest ≡ p.newest → q.lines.items ≡ p.lines.items
      → Follows m q (with_trace (took_one (taking c) s.trace) s)
  taken_follows p q c b s follows fits is named config sockets newest lines = record {
    core = subst (λ (ys : List Item). Agrees m q.core (Took c.0 (length ys) ∷ s.trace)) (batch_items (conn s.trace c.0) b is) fits;
    started = follows.started;
    named = named ∙ follows.named;
    config = ap (λ r. r.now) config ∙ follows.config;
    last = newest ∙ follows.last;
    sockets = λ n. ap (λ m. seen (get nat_cmp m n)) sockets ∙ follows.sockets n;
    lines = lines ∙ follows.lines;
  }
