use Rattle.std.proofs.Common.{◌≡◌, ◌∙◌, ap, subst, true, not, ◌==◌, ◌&&◌, ◌+◌, ◌*◌, ◌/◌, arith}
use Rattle.serve_lock.specs.declared.bells.Bells.{Bells}
use Rattle.serve_lock.specs.Ringing.{is_set}
use Rattle.serve_lock.proofs.Ringings.{bell_of_bit, no_bell}
use Rattle.serve_lock.proofs.bells.Bells.pop.Goals as goal

pub returns-in-Some-clause-taken : goal.returns-in-Some-clause-taken
returns-in-Some-clause-taken c =
    let same = c.loop-place.invariant.same in
    let bell = c.loop-place.place * 64 + c.in-Some.bit in
    let bit = c.in-Some.ensures.bit in (
      omega (arith, bit.0, c.loop-place-test.true),
      subst (λ (s : Bells). is_set s.words bell ≡ true) same (bell_of_bit c.loop-place.self.words c.loop-place.place c.in-Some.bit bit.0 bit.1),
      λ b. c.remove.ensures b ∙ ap (λ (s : Bells). not (bell == b) && is_set s.words b) same,
    )

pub returns-clause-none : goal.returns-clause-none
returns-clause-none c = λ b below.
    no_bell c.args.self.now.words b (c.loop-place.invariant.empty (b / 64) (omega (arith, below, c.loop-place-test.false)))
