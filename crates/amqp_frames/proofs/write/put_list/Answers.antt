use Rattle.std.proofs.Common.{◌≡◌, ◌+◌, length, refl, arith}
use Rattle.amqp_frames.proofs.ShortLists.{frame_of_list}
use Rattle.amqp_frames.proofs.write.put_list.Goals as goal

pub returns-clause-ok : goal.returns-clause-ok
returns-clause-ok c =
    let sized : c.in-Some.len ≡ length c.args.payload.now + (6 + length c.args.fields.now) = grind arith in
    frame_of_list c.args.out.now.items c.extend_from_slice.new.self.items c.extend_from_slice-2.new.self.items c.extend_from_slice-3.new.self.items c.extend_from_slice-4.new.self.items
    c.in_ok-head.head _ c.args.fields.now c.args.payload.now c.args.sasl c.args.channel c.args.list.0 c.args.list.1 c.in-Some.len c.in_ok-extend_from_slice.ensures.items
    c.in_ok-extend_from_slice-2.ensures.items c.in_ok-extend_from_slice-3.ensures.items c.in_ok-extend_from_slice-4.ensures.items c.in_ok-head.ensures refl sized
