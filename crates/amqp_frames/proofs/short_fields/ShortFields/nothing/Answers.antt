use Rattle.std.proofs.Common.{arith}
use Rattle.amqp_frames.proofs.ShortPlaces.{ubyte_null, state_null, map_null}
use Rattle.amqp_frames.proofs.short_fields.ShortFields.nothing.Goals as goal

pub returns-clause-ubyte : goal.returns-clause-ubyte
returns-clause-ubyte c = ubyte_null c.args.self.now c.pass.new.self c.in_ok-rest.rest.now (grind arith) c.in_ok-rest.ensures c.pass.ensures

pub returns-clause-state : goal.returns-clause-state
returns-clause-state c = state_null c.args.self.now c.pass.new.self c.in_ok-rest.rest.now (grind arith) c.in_ok-rest.ensures c.pass.ensures

pub returns-clause-map : goal.returns-clause-map
returns-clause-map c = map_null c.args.self.now c.pass.new.self c.in_ok-rest.rest.now (grind arith) c.in_ok-rest.ensures c.pass.ensures
