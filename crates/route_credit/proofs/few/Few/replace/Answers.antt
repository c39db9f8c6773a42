use Rattle.std.proofs.Common.{◌∙◌, ◌+◌, ap, arith}
use Rattle.route_credit.specs.Few.{count, is_there, once}
use Rattle.route_credit.specs.declared.few.Few.{Few}
use Rattle.route_credit.proofs.Counted.{nowhere, replaced}
use Rattle.route_credit.proofs.few.Few.replace.Goals as goal

pub returns-then-stands-clause-replaced : goal.returns-then-stands-clause-replaced
returns-then-stands-clause-replaced c = λ _ place.
    ap (λ few. count few place + once (is_there c.args.before place)) c.set.ensures
    ∙ replaced c.loop-at.self.places c.loop-at.at c.args.before c.args.after (omega (arith, c.loop-at-test.true, c.loop-at.self.four)) (c.stands.ensures.there c.if-stands.true) place
    ∙ ap (λ (s : Few). count s.places place + once (is_there c.args.after place)) c.loop-at.invariant.0

pub returns-clause-absent : goal.returns-clause-absent
returns-clause-absent c = λ _ place is. nowhere c.args.self.now.places c.args.before place
    (λ q below. c.loop-at.invariant.1 q (omega (arith, below, c.args.self.now.four, c.loop-at-test.false))) is
