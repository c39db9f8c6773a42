use Rattle.std.proofs.Common.{rules}
use Rattle.reply_frames.proofs.Filled.{most_without_room, most_in_room}
use Rattle.reply_frames.proofs.next.room_for.Goals as goal

pub returns-in-None-clause-count : goal.returns-in-None-clause-count
returns-in-None-clause-count c =
    λ own. most_without_room own c.args.largest c.args.transfer.now c.args.rest.now c.in_ok-transfer_room.field-0 c.in_ok-transfer_room.ensures.exact c.in-None.is

pub returns-in-Some-clause-count : goal.returns-in-Some-clause-count
returns-in-Some-clause-count c =
    λ own. most_in_room own c.args.largest c.min.result c.args.transfer.now c.args.rest.now c.in-Some.room c.in_ok-transfer_room.field-0 c.in_ok-transfer_room.ensures.exact c.in-Some.is (search rules)
