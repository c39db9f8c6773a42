use Rattle.std.proofs.Common.{arith}
use Rattle.amqp_frames.proofs.ShortPlaces.{uint_here}
use Rattle.amqp_frames.proofs.short_fields.ShortFields.uint.Goals as goal

pub returns : goal.returns
returns c = uint_here c.args.self.now c.pass.new.self c.in_ok-number.number c.in_ok-number.rest.now (grind arith) c.in_ok-number.ensures c.pass.ensures
