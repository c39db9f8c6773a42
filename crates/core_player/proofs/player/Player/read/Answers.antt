use Rattle.std.proofs.Common.{refl}
use Rattle.std.specs.Prelude.{option_map}
use Rattle.std.proofs.lemmas.Result.{IfOk-weaker}
use Rattle.core_player.proofs.Bytes.{read_scene}
use Rattle.core_player.proofs.player.Player.read.Goals as goal

pub returns-clause-reads : goal.returns-clause-reads
returns-clause-reads g c = IfOk-weaker c.read_in.result _ _
    (λ read reads s follows. read_scene g.M.Machine.meaning c.args.self.now _ c.args.conn c.args.bytes.now s (option_map (λ v. v.items) read) reads refl refl refl refl follows)
    c.read_in.ensures
