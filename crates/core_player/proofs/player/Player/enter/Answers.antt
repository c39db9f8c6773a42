use Rattle.std.proofs.Common.{subst}
use Rattle.std.proofs.lemmas.Result.{on_ok_weaker}
use Rattle.core_player.specs.Script.{Scene}
use Rattle.core_player.specs.Playing.{Follows}
use Rattle.core_player.proofs.player.Player.enter.Goals as goal

pub returns-clause-follows : goal.returns-clause-follows
returns-clause-follows g c = on_ok_weaker c.follow.result
    (λ h works s f. let w = c.in_ok-asked.ensures.asks s f in subst (λ (u : Scene). Follows g.M.Machine.meaning c.follow.new.self u) w.2 (h works w.0 w.1))
    c.follow.ensures.follows
