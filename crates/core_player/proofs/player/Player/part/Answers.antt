use Rattle.std.proofs.Common.{refl}
use Rattle.core_player.proofs.Scenes.{parted_scene}
use Rattle.core_player.proofs.player.Player.part.Goals as goal

pub returns-clause-parted : goal.returns-clause-parted
returns-clause-parted g c = λ s follows. parted_scene g.M.Machine.meaning c.args.self.now _ c.args.conn c.part_in.result s c.part_in.ensures.parted c.part_in.ensures.rows refl refl refl refl follows
