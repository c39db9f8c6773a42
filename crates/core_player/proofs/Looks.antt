-- Connections that look alike: a player's and a scene's.
use Rattle.std.proofs.Common.{◌≡◌, ◌∙◌, sym, ap, refl, subst, ℕ, Bool, true, false, List}
use Rattle.std.specs.Prelude.{◌==◌, Option, Some, None, if◌then◌else◌}
use Rattle.std.proofs.lemmas.Bool.{eqb-true}
use Rattle.std.specs.Ordering.{nat_cmp}
use Rattle.std.specs.BTreeMap.{get}
use Rattle.core_door.specs.declared.door.Door.{Door as DoorState}
use Rattle.state_connections.proofs.Lists.{by_test}
use Rattle.core_player.specs.declared.socket.Socket.{Socket}
use Rattle.core_player.specs.declared.player.Player.{Player}
use Rattle.core_player.specs.Script.{Scene}
use Rattle.core_player.specs.Playing.{Agrees, Follows, Look, look_at, seen}
use Rattle.core_machine.specs.Meaning.{Meaning}

-- what a socket with this door and these waiting bytes shows
abbrev pub look : Option DoorState → Option (List ℕ) → Look
look d st = record { door = d; stream = st }

-- two sockets that look alike are at the same door, and what waits in both is the same
pub alike : (k l : Socket) → seen (Some k) ≡ seen (Some l) → look_at k ≡ look_at l
alike k l e = both (look_at k) (look_at l) e
  where
    both : (a b : Look) → Some a ≡ Some b → a ≡ b
    both a b e = cc

pub not_none : (a : Look) → Some a ≡ None → ⊥
not_none a e = absurd cc

-- the row of one connection changed, in both
pub changed : (c : ℕ) (old new : ℕ → Option Socket) (f : ℕ → Option Socket) (k l : Option Socket) → ((n : ℕ) → seen (old n) ≡ seen (f n))
    → ((n : ℕ) → new n ≡ (if c == n then k else old n)) → seen k ≡ seen l → (n : ℕ) → seen (new n) ≡ seen (if c == n then l else f n)
changed c old new f k l same up e n = ap seen (up n) ∙ two (c == n) k l (old n) (f n) e (same n)
  where
    two : (b : Bool) (x y v w : Option Socket) → seen x ≡ seen y → seen v ≡ seen w → seen (if b then x else v) ≡ seen (if b then y else w)
    two true x y v w e f = e
    two false x y v w e f = f

-- a row was written again
pub unchanged : (c : ℕ) (f : ℕ → Option Socket) (k : Socket) → f c ≡ Some k → (n : ℕ) → (if c == n then Some k else f n) ≡ f n
unchanged c f k e n = by_test (c == n) (λ h. rw h (sym e ∙ ap f (eqb-true c n h))) (λ h. rw h refl)

-- a player whose table of connections changed, and nothing else that a scene shows
pub record Elsewhere {M : Type 0} (p q : Player M) : Type 0 where
  pub core : q.core ≡ p.core
  pub config : q.config ≡ p.config
  pub last : q.newest ≡ p.newest
  pub lines : q.lines.items ≡ p.lines.items

pub elsewhere : {M : Type 0} (p q : Player M) → q.core ≡ p.core → q.config ≡ p.config → q.newest ≡ p.newest → q.lines.items ≡ p.lines.items → Elsewhere p q
elsewhere p q core config last lines = record { core = core; config = config; last = last; lines = lines }

module _ {M : Type 0} (m : Meaning M) where
  -- ... and a scene's table with it
  pub table_follows : (p q : Player M) (s : Scene) (f : ℕ → Option Socket) → Elsewhere p q → ((n : ℕ) → seen (get nat_cmp q.sockets n) ≡ seen (f n)) → Follows m p s
      → Follows m q (record { id = s.id; config = s.config; trace = s.trace; last = s.last; sockets = f; lines = s.lines })
  table_follows p q s f r sockets follows = record {
    core = subst (λ (k : M). Agrees m k s.trace) (sym r.core) follows.core;
    started = follows.started;
    named = ap m.id r.core ∙ follows.named;
    config = ap (λ r. r.now) r.config ∙ follows.config;
    last = r.last ∙ follows.last;
    sockets = sockets;
    lines = r.lines ∙ follows.lines;
  }
