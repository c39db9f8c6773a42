use Rattle.std.proofs.Common.{◌≡◌, arith, rules, Some, true, false}
use Rattle.amqp_frames.proofs.ShortPlaces.{role_here}
use Rattle.amqp_frames.proofs.short_fields.ShortFields.required_role.Goals as goal

pub returns-then-branch : goal.returns-then-branch
returns-then-branch c =
    let there : c.in_ok-flag.flag ≡ Some true = search rules in
    role_here c.args.self.now c.pass.new.self c.in_ok-flag.flag true c.in_ok-flag.rest.now (grind arith) c.in_ok-flag.ensures there c.pass.ensures

pub returns-else-branch : goal.returns-else-branch
returns-else-branch c =
    let there : c.in_ok-flag.flag ≡ Some false = search rules in
    role_here c.args.self.now c.pass.new.self c.in_ok-flag.flag false c.in_ok-flag.rest.now (grind arith) c.in_ok-flag.ensures there c.pass.ensures
