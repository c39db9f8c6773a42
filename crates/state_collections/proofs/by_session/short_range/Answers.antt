use Rattle.std.proofs.Common.{◌≡◌, ◌+◌, arith}
use Rattle.amqp_session.specs.Serials.{distance}
use Rattle.state_collections.proofs.Ids.{none_asked, all_asked}
use Rattle.state_collections.proofs.by_session.short_range.Goals as goal

pub loop-step-init : goal.loop-step-init
loop-step-init g c = none_asked c.args.first _ c.new-found.result.items c.new-found.ensures.items

pub returns-clause-exact : goal.returns-clause-exact
returns-clause-exact g c =
    let all : c.loop-step.step ≡ distance c.args.first c.args.last + 1 = omega (arith, c.loop-step-test.false, c.loop-step.auto.step-end, c.distance_to-count.ensures.exact) in
    all_asked c.args.first c.args.last c.loop-step.step _ c.loop-step.found.items c.requires all c.loop-step.invariant
