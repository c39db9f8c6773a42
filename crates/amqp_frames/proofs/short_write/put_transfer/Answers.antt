use Rattle.std.proofs.Common.{arith}
use Rattle.std.proofs.lemmas.Grind.{common_steps}
use Rattle.amqp_frames.proofs.ShortLists.{transfer_of_four, transfer_of_five, transfer_of_six}
use Rattle.amqp_frames.proofs.short_write.put_transfer.Goals as goal

pub returns-then-transfer : goal.returns-then-transfer
returns-then-transfer c =
    transfer_of_six c.args.transfer.now c.put_delivery.new.fields.items c.put_flag.new.fields.items c.put_flag-then-transfer.new.fields.items c.in_ok-put_delivery.ensures.written
    c.if-transfer.true c.put_flag.ensures.written c.put_flag-then-transfer.ensures.written (grind (arith, common_steps))

pub returns-then-transfer-2 : goal.returns-then-transfer-2
returns-then-transfer-2 c =
    transfer_of_five c.args.transfer.now c.put_delivery.new.fields.items c.put_flag-then-transfer-2.new.fields.items c.in_ok-put_delivery.ensures.written c.if-transfer-2.true c.if-transfer.false
    c.put_flag-then-transfer-2.ensures.written (grind (arith, common_steps))

pub returns : goal.returns
returns c =
    transfer_of_four c.args.transfer.now c.put_delivery.new.fields.items c.in_ok-put_delivery.ensures.written c.if-transfer-2.false c.if-transfer.false (grind (arith, common_steps))
