use Rattle.std.proofs.Common.{sym}
use Rattle.amqp_frames.proofs.Fronts.{front_short, front_read}
use Rattle.amqp_frames.proofs.cut.next_item.Goals as goal

pub returns-in-Whole-clause-front : goal.returns-in-Whole-clause-front
returns-in-Whole-clause-front c = front_short c.args.bytes.now c.in-Whole.size (sym c.in-Whole.ensures) c.if-bytes-size.true

pub returns-in-Ok-copy_from_slice-clause-front : goal.returns-in-Ok-copy_from_slice-clause-front
returns-in-Ok-copy_from_slice-clause-front c =
    front_read c.args.bytes.now _ _ _ c.in-Whole.size _ _ _ (sym c.in-Whole.ensures) c.if-bytes-size.false
    c.split_at.ensures.front c.split_at.ensures.back c.in-Ok.ensures.item c.in-Ok-copy_from_slice.ensures c.load.ensures
