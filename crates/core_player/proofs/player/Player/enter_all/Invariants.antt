use Rattle.std.proofs.Common.{◌≡◌, true, false}
use Rattle.std.specs.Vec.Iter.{into_iter_items}
use Rattle.core_player.specs.Script.{Scene, enter_all}
use Rattle.core_player.specs.Playing.{Follows, Tells}
use Rattle.core_player.proofs.player.Player.enter_all.Given as goal

abbrev pub invariant-loop-item : goal.invariant-loop-item
invariant-loop-item g l = record {
  follows : g.M.Machine.meaning.is_failed l.self.core ≡ false → (s : Scene) → Follows g.M.Machine.meaning l.fn.self s → (u : Scene) × Follows g.M.Machine.meaning l.self u
      × (enter_all g.M.Machine.meaning.next l.conn (into_iter_items l.item-iterator) u ≡ enter_all g.M.Machine.meaning.next l.conn l.fn.items.items s);
  stays : g.M.Machine.meaning.is_failed l.fn.self.core ≡ true → g.M.Machine.meaning.is_failed l.self.core ≡ true;
  tells : (first : _) → Tells g.M.Machine.meaning first l.fn.self → Tells g.M.Machine.meaning first l.self;
}
