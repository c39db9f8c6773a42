use Rattle.std.proofs.lemmas.Result.{on_ok_weaker}
use Rattle.router_trace.specs.declared.event.Event.TheVariants as event
use Rattle.core_player.specs.Script.{hand}
use Rattle.core_player.proofs.Scenes.{back}
use Rattle.core_player.proofs.player.Player.pass.Goals as goal

pub returns-clause-follows : goal.returns-clause-follows
returns-clause-follows g c = on_ok_weaker c.hand-2.result
    (λ h works s f. h works (hand g.M.Machine.meaning.next (event.Up c.args.conn c.args.peer) s)
    (c.in_ok-hand.ensures.follows (back (g.M.Machine.meaning.is_failed c.hand.new.self.core) (g.M.Machine.meaning.is_failed c.hand-2.new.self.core) c.hand-2.ensures.stays works) s f))
    c.hand-2.ensures.follows
