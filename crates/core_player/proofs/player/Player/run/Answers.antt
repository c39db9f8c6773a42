use Rattle.std.proofs.lemmas.Result.{on_ok_weaker}
use Rattle.core_player.specs.Script.{opening}
use Rattle.core_player.proofs.Scenes.{back}
use Rattle.core_player.proofs.player.Player.run.Goals as goal

pub returns-clause-follows : goal.returns-clause-follows
returns-clause-follows g c = on_ok_weaker c.play.result
    (λ h works config from b. h works (opening g.M.Machine.meaning.next config from)
    (c.in_ok-start.ensures.follows (back (g.M.Machine.meaning.is_failed c.start.new.self.core) (g.M.Machine.meaning.is_failed c.play.new.self.core) c.play.ensures.stays works) config from b))
    c.play.ensures.follows
