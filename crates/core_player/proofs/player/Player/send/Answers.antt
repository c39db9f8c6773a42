use Rattle.std.proofs.Common.{Bool, List, subst}
use Rattle.std.specs.Prelude.{map}
use Rattle.amqp_model.specs.declared.item.Item.{Item}
use Rattle.core_player.specs.Script.{close_if, out_line, say_all}
use Rattle.core_player.specs.Playing.{Follows}
use Rattle.core_player.proofs.Bytes.{said_follows}
use Rattle.core_player.proofs.player.Player.send.Goals as goal

pub returns-clause-follows : goal.returns-clause-follows
returns-clause-follows g c = λ s f.
    let m = g.M.Machine.meaning in
    let said = said_follows m c.args.self.now c.say_all.new.self (map (out_line c.args.conn) c.items.result.now) s c.in_ok-say_all.ensures.said f in
    subst (λ (ys : List Item). Follows m c.close_if.new.self (close_if c.args.batch.ended c.args.conn (say_all (map (out_line c.args.conn) ys) s))) c.items.ensures
    (subst (λ (b : Bool). Follows m c.close_if.new.self (close_if b c.args.conn (say_all (map (out_line c.args.conn) c.items.result.now) s))) c.is_last.ensures
    (c.in_ok-close_if.ensures.follows _ said))
