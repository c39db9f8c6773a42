use Rattle.std.proofs.Common.{arith}
use Rattle.amqp_frames.proofs.ShortPlaces.{tag_here}
use Rattle.amqp_frames.proofs.short_fields.ShortFields.tag.Goals as goal

pub returns : goal.returns
returns c = tag_here c.args.self.now c.pass.new.self c.in_ok-tag.tag c.in_ok-bytes.bytes.now c.in_ok-bytes.rest.now (grind arith) c.in_ok-bytes.ensures c.pass.ensures c.in_ok-tag.ensures
