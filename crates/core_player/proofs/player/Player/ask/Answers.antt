use Rattle.std.proofs.Common.{refl}
use Rattle.std.proofs.lemmas.Result.{IfOk-weaker}
use Rattle.core_player.proofs.Asks.{asked_scene}
use Rattle.core_player.proofs.player.Player.ask.Goals as goal

pub returns-clause-asks : goal.returns-clause-asks
returns-clause-asks g c = IfOk-weaker c.ask_in.result _ _ (λ a asks s follows. asked_scene g.M.Machine.meaning c.args.self.now _ c.args.conn c.args.item.now a s asks refl refl refl refl follows) c.ask_in.ensures
