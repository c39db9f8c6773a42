use Rattle.std.proofs.Common.{refl, arith, rules}
use Rattle.std.proofs.lemmas.Grind.{common_steps}
use Rattle.amqp_frames.proofs.ShortPerfs.{head_is}
use Rattle.amqp_frames.proofs.short_read.head.Goals as goal

pub returns-clause-heads : goal.returns-clause-heads
returns-clause-heads c =
    head_is c.args.bytes.now (record { left = c.from.result; rest = c.split_at.result.0 }) c.from-size.result _ c.in-0.len_at_least (search rules) (search rules) (search rules)
    c.from-size.ensures (grind arith) refl (grind (arith, common_steps)) c.from.ensures c.split_at.ensures.front
