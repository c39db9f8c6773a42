use Rattle.std.proofs.Common.{◌≡◌, true, false, drop}
use Rattle.core_player.specs.Script.{Scene, Plays}
use Rattle.core_player.specs.Playing.{Follows, Tells}
use Rattle.core_player.proofs.player.Player.play.Given as goal

-- the rest continues as the whole does
abbrev pub invariant-loop-step : goal.invariant-loop-step
invariant-loop-step g l = record {
  follows : g.M.Machine.meaning.is_failed l.self.core ≡ false → (s : Scene) → Follows g.M.Machine.meaning l.fn.self s → (m : Scene) × Follows g.M.Machine.meaning l.self m
      × ((u : Scene) → Plays g.M.Machine.meaning.next (drop l.step-index l.steps) m u → Plays g.M.Machine.meaning.next l.steps s u);
  stays : g.M.Machine.meaning.is_failed l.fn.self.core ≡ true → g.M.Machine.meaning.is_failed l.self.core ≡ true;
  tells : (first : _) → Tells g.M.Machine.meaning first l.fn.self → Tells g.M.Machine.meaning first l.self;
}
