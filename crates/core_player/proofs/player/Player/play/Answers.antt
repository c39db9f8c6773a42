use Rattle.core_player.proofs.Scenes.{back, plays_more}
use Rattle.core_player.proofs.player.Player.play.Goals as goal

pub loop-step-preserved : goal.loop-step-preserved
loop-step-preserved g c = record {
  follows = λ works s f.
      let stepped = back (g.M.Machine.meaning.is_failed c.step.new.self.core) (g.M.Machine.meaning.is_failed c.flush.new.self.core) c.flush.ensures.stays works
      in let a = c.loop-step.invariant.follows (back (g.M.Machine.meaning.is_failed c.loop-step.self.core) (g.M.Machine.meaning.is_failed c.step.new.self.core) c.step.ensures.stays stepped) s f
      in let b = c.in_ok-step.ensures.follows stepped a.0 a.1
      in let d = c.in_ok-flush.ensures.follows works b.0 b.2
      in (d.0, d.2, λ u rest. a.2 u (plays_more g.M.Machine.meaning.next c.args.steps.now c.loop-step.step-index c.step-item.result a.0 b.0 d.0 u c.step-item.is c.loop-step-test.true b.1 d.1 rest));
  stays = λ h. c.flush.ensures.stays (c.step.ensures.stays (c.loop-step.invariant.stays h));
  tells = λ first h. c.in_ok-flush.ensures.tells first (c.in_ok-step.ensures.tells first (c.loop-step.invariant.tells first h));
}
