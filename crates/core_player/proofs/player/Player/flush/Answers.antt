use Rattle.std.proofs.Common.{refl, subst, sym, ◌++◌, ◌∷◌, []}
use Rattle.core_machine.specs.Moves.{taking}
use Rattle.core_player.specs.Script.{Scene}
use Rattle.core_player.specs.Playing.{Follows}
use Rattle.core_player.proofs.Scenes.{back, take_all_more, turns_more}
use Rattle.core_player.proofs.player.Player.flush.Goals as goal

pub loop-turn-preserved : goal.loop-turn-preserved
loop-turn-preserved g c = record {
  follows = λ works s f.
      let w = c.loop-turn.invariant.follows (back (g.M.Machine.meaning.is_failed c.loop-turn.self.core) (g.M.Machine.meaning.is_failed c.take.new.self.core) c.take.ensures.stays works) s f
      in (
        w.0 ++ taking c.in-Some.conn ∷ [],
        turns_more w.0 (taking c.in-Some.conn) s w.1 (record { most = refl; lowest = c.in-Some.ensures _ w.2.core.0 }),
        subst (λ (u : Scene). Follows g.M.Machine.meaning c.take.new.self u) (sym (take_all_more w.0 (taking c.in-Some.conn) s))
            (c.in_ok-take-in-Some.ensures.follows works _ w.2 (c.in-Some.ensures _ w.2.core.0).0),
      );
  stays = λ h. c.take.ensures.stays (c.loop-turn.invariant.stays h);
  tells = λ first h. c.in_ok-take-in-Some.ensures.tells first (c.loop-turn.invariant.tells first h);
}
