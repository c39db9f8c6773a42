use Rattle.std.proofs.Common.{◌∙◌, arith, sym}
use Rattle.state_collections.proofs.Among.{at_all, found, none_so_far, not_there}
use Rattle.state_collections.proofs.few.Few.has.Goals as goal

pub loop-place-init : goal.loop-place-init
loop-place-init c = none_so_far c.args.self.now.places c.args.number

pub returns-then-at-number : goal.returns-then-at-number
returns-then-at-number c = sym (found c.args.self.now.count c.loop-place.place c.args.self.now.places c.args.number c.loop-place-test.true
    (omega (arith, c.loop-place-test.true, c.args.self.now.fits, c.args.self.now.four))
    (sym c.at.ensures ∙ c.if-at-number.true))

pub loop-place-preserved : goal.loop-place-preserved
loop-place-preserved c = not_there c.loop-place.place c.args.self.now.places c.args.number
    (omega (arith, c.loop-place-test.true, c.args.self.now.fits, c.args.self.now.four)) c.loop-place.invariant
    (λ is. c.if-at-number.false (c.at.ensures ∙ is))

pub returns : goal.returns
returns c = sym (at_all c.loop-place.place c.args.self.now.count c.args.self.now.places c.args.number (omega (arith, c.loop-place.auto.place-end)) c.loop-place-test.false ∙ c.loop-place.invariant)
