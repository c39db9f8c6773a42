use Rattle.std.proofs.Common.{arith}
use Rattle.amqp_frames.proofs.ShortPlaces.{flag_here}
use Rattle.amqp_frames.proofs.short_fields.ShortFields.flag.Goals as goal

pub returns : goal.returns
returns c = rw c.unwrap_or.ensures (flag_here c.args.self.now c.pass.new.self c.in_ok-flag.flag c.in_ok-flag.rest.now (grind arith) c.in_ok-flag.ensures c.pass.ensures)
