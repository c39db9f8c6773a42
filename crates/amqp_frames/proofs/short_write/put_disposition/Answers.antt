use Rattle.std.proofs.Common.{arith}
use Rattle.std.proofs.lemmas.Grind.{common_steps}
use Rattle.amqp_frames.proofs.ShortLists.{disposition_is}
use Rattle.amqp_frames.proofs.short_write.put_disposition.Goals as goal

pub returns : goal.returns
returns c =
    disposition_is c.args.disposition.now c.args.fields.now.items c.put_role.new.fields.items c.put_uint.new.fields.items c.put_optional.new.fields.items c.put_flag.new.fields.items
    c.put_accepted.new.fields.items c.in_ok-settles_and_accepts.ensures.settled c.in_ok-settles_and_accepts.ensures.state c.in_ok-settles_and_accepts.ensures.batchable c.requires
    c.put_role.ensures.written c.put_uint.ensures.written c.put_optional.ensures.written c.put_flag.ensures.written c.put_accepted.ensures.written (grind (arith, common_steps))
