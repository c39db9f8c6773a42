use Rattle.std.proofs.Common.{◌∙◌, sym}
use Rattle.route_links.proofs.Runs.{far_on, nearer_as, stops}
use Rattle.route_links.proofs.leg.Leg.release_one.Goals as goal

pub returns-in-Stopped-clause-stopped : goal.returns-in-Stopped-clause-stopped
returns-in-Stopped-clause-stopped c =
    stops c.args.still.now c.args.self.now c.release_first.new.self c.in-Stopped.stop (sym c.in_ok-stop.ensures.turn ∙ c.in-Stopped.is) c.in_ok-stop.ensures.behind

pub returns-in_ok-push-in-Passed-clause-far : goal.returns-in_ok-push-in-Passed-clause-far
returns-in_ok-push-in-Passed-clause-far c = λ a before old far.
    far_on a before old c.args.out.now.items c.reserve.new.self.items c.push.new.self.items c.args.self.now c.release_first.new.self c.args.still.now c.less-less.result c.in-Passed.passing
    c.in_ok-reserve.ensures.items c.in_ok-push-in-Passed.ensures.items (sym c.in_ok-stop.ensures.turn ∙ c.in-Passed.is) c.in_ok-stop.ensures.behind c.less-less.ensures far

pub returns-in_ok-push-in-Passed-clause-nearer : goal.returns-in_ok-push-in-Passed-clause-nearer
returns-in_ok-push-in-Passed-clause-nearer c = λ none.
    nearer_as c.args.still.now c.less-less.result c.args.self.now c.release_first.new.self c.in-Passed.passing
    (sym c.in_ok-stop.ensures.turn ∙ c.in-Passed.is) c.in_ok-stop.ensures.behind c.less-less.ensures
