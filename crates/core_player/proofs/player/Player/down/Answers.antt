use Rattle.std.proofs.Common.{subst, ◌∷◌, []}
use Rattle.std.proofs.lemmas.Result.{on_ok_weaker}
use Rattle.core_player.specs.Script.{Scene, refused}
use Rattle.core_player.specs.Playing.{Follows}
use Rattle.core_player.proofs.Bytes.{said_follows}
use Rattle.core_player.proofs.player.Player.down.Goals as goal

pub returns-in-Passed-clause-follows : goal.returns-in-Passed-clause-follows
returns-in-Passed-clause-follows g c = on_ok_weaker c.hand.result
    (λ h works s f. let w = c.in-Passed.ensures.parted s f in subst (λ (u : Scene). Follows g.M.Machine.meaning c.hand.new.self u) w.2 (h works w.0 w.1))
    c.hand.ensures.follows

pub returns-in-Closed-clause-follows : goal.returns-in-Closed-clause-follows
returns-in-Closed-clause-follows g c = on_ok_weaker c.refuse.result
    (λ said works s f. let w = c.in-Closed.ensures.parted s f in subst (λ (u : Scene). Follows g.M.Machine.meaning c.refuse.new.self u) w.2 (said_follows g.M.Machine.meaning _ _ (refused ∷ []) w.0 said w.1))
    c.refuse.ensures.said
