use Rattle.route_links.proofs.Rooms.{room_is}
use Rattle.route_links.proofs.cut.room.Goals as goal

pub returns : goal.returns
returns c = room_is c.args.transfer.now c.args.largest _ c.in_ok-transfer_room.ensures.exact
