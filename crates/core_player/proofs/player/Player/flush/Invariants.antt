use Rattle.std.proofs.Common.{◌≡◌, true, false, List}
use Rattle.core_machine.specs.Moves.{Taking}
use Rattle.core_player.specs.Script.{Scene, take_all, AllInTurn}
use Rattle.core_player.specs.Playing.{Follows, Tells}
use Rattle.core_player.proofs.player.Player.flush.Given as goal

abbrev pub invariant-loop-turn : goal.invariant-loop-turn
invariant-loop-turn g l = record {
  follows : g.M.Machine.meaning.is_failed l.self.core ≡ false → (s : Scene) → Follows g.M.Machine.meaning l.fn.self s → (takes : List Taking) × AllInTurn takes s × Follows g.M.Machine.meaning l.self (take_all takes s);
  stays : g.M.Machine.meaning.is_failed l.fn.self.core ≡ true → g.M.Machine.meaning.is_failed l.self.core ≡ true;
  tells : (first : _) → Tells g.M.Machine.meaning first l.fn.self → Tells g.M.Machine.meaning first l.self;
}
