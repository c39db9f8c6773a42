use Rattle.router_serve.proofs.Submits.{gone_joined, handed_gone, none_gone, refused_some, some_behind}
use Rattle.std.proofs.Common.{arith}
use Rattle.router_serve.proofs.reader.submit_all.Goals as goal

pub loop-conn-init : goal.loop-conn-init
loop-conn-init g c = none_gone c.args.seat.now c.args.items.now.items

pub loop-conn-preserved : goal.loop-conn-preserved
loop-conn-preserved g c =
    gone_joined _ _ _ _ _ _ c.loop-conn.invariant (handed_gone _ _ _ _ c.in-Ok.ensures.handled)

pub returns-in-Err-clause-some : goal.returns-in-Err-clause-some
returns-in-Err-clause-some g c =
    some_behind _ _ _ _ _ _ (omega arith) c.loop-conn.invariant (refused_some _ _ _ _ c.in-Err.ensures.refused)
