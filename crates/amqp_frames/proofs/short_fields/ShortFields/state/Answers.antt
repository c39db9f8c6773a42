use Rattle.std.proofs.Common.{arith}
use Rattle.amqp_frames.proofs.ShortPlaces.{state_accepted}
use Rattle.amqp_frames.proofs.short_fields.ShortFields.state.Goals as goal

pub returns-in-Some : goal.returns-in-Some
returns-in-Some c = state_accepted c.args.self.now c.pass.new.self c.in-Some.rest.now (grind arith) c.in-Some.ensures c.pass.ensures
