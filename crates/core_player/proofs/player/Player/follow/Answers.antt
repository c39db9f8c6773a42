use Rattle.std.proofs.Common.{sym, subst}
use Rattle.std.proofs.lemmas.Result.{on_ok_weaker}
use Rattle.core_player.specs.declared.socket.Asked.{Asked}
use Rattle.core_player.specs.Asking.{follow}
use Rattle.core_player.specs.Playing.{Follows}
use Rattle.core_player.proofs.player.Player.follow.Goals as goal

pub returns-in-Router-clause-follows : goal.returns-in-Router-clause-follows
returns-in-Router-clause-follows g c = on_ok_weaker c.hand.result
    (λ h works s f. subst (λ (a : Asked). Follows g.M.Machine.meaning c.hand.new.self (follow g.M.Machine.meaning.next c.args.conn c.args.item a s)) (sym c.in-Router.is) (h works s f))
    c.hand.ensures.follows

pub returns-in-Pass-clause-follows : goal.returns-in-Pass-clause-follows
returns-in-Pass-clause-follows g c = on_ok_weaker c.pass.result
    (λ h works s f. subst (λ (a : Asked). Follows g.M.Machine.meaning c.pass.new.self (follow g.M.Machine.meaning.next c.args.conn c.args.item a s)) (sym c.in-Pass.is) (h works s f))
    c.pass.ensures.follows
