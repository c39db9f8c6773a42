use Rattle.std.proofs.Common.{◌≡◌, true, false, ℕ, List, ◌++◌, length}
use Rattle.std.specs.Prelude.{Some}
use Rattle.core_player.specs.declared.socket.Socket.{Socket}
use Rattle.core_player.specs.Script.{Scene, Reads}
use Rattle.core_player.specs.Playing.{Follows, Tells}
use Rattle.core_player.proofs.player.Player.more_bytes.Given as goal

-- the bytes so far, and those after them
abbrev pub invariant-loop-behind : goal.invariant-loop-behind
invariant-loop-behind g l = record {
  continues : g.M.Machine.meaning.is_failed l.self.core ≡ false → (s v : Scene) (k : Socket) (before : List ℕ) → s.sockets l.conn.0 ≡ Some k → Reads g.M.Machine.meaning.next l.conn before s k false v → Follows g.M.Machine.meaning l.fn.self v
      → (u : Scene) × (done : List ℕ) × (done ++ l.behind ≡ before ++ l.bytes) × Reads g.M.Machine.meaning.next l.conn done s k false u × Follows g.M.Machine.meaning l.self u;
  stays : g.M.Machine.meaning.is_failed l.fn.self.core ≡ true → g.M.Machine.meaning.is_failed l.self.core ≡ true;
  tells : (first : _) → Tells g.M.Machine.meaning first l.fn.self → Tells g.M.Machine.meaning first l.self;
}

abbrev pub decreases-loop-behind : goal.decreases-loop-behind
decreases-loop-behind g l = length l.behind
