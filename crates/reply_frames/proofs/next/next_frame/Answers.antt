use Rattle.std.proofs.Common.{◌∙◌}
use Rattle.reply_frames.proofs.Filled.{frame_of_part}
use Rattle.reply_frames.proofs.next.next_frame.Goals as goal

pub returns : goal.returns
returns c =
    c.transfer_frame-2.ensures
    ∙ frame_of_part c.args.largest c.args.own c.args.transfer c.args.rest.now c.in_ok-part.part c.in_ok-takes.field-0 (c.in_ok-takes.ensures c.args.own) c.if-branch.false (c.in_ok-part.ensures c.args.own)
