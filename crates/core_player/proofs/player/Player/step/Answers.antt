use Rattle.std.proofs.Common.{refl}
use Rattle.core_player.proofs.player.Player.step.Goals as goal

pub returns-in-Fuse-clause-follows : goal.returns-in-Fuse-clause-follows
returns-in-Fuse-clause-follows g c = λ works s f. (s, rw c.in-Fuse.is refl, c.fuse.ensures.follows s f)
