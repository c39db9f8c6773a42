use Rattle.std.proofs.Common.{◌==◌, ◌&&◌, arith}
use Rattle.std.specs.Prelude.{nat_lt}
use Rattle.state_collections.specs.Among.{is_among}
use Rattle.state_collections.proofs.Leasts.{least_above_at_all, least_above_so_far, none_above_so_far}
use Rattle.state_collections.proofs.few.Few.lowest_above.Goals as goal

pub loop-place-init : goal.loop-place-init
loop-place-init c = (omega arith, none_above_so_far c.args.self.now.places c.args.number)

pub loop-place-preserved : goal.loop-place-preserved
loop-place-preserved c =
    let few = c.args.self.now in
    let place = c.loop-place.place in
    let number = c.args.number in (
      omega (arith, c.loop-place.invariant.0, c.if-place-self.false),
      least_above_so_far place few.places number c.at.result c.lower-least.result
          (omega (arith, c.loop-place-test.true, few.four)) c.at.ensures
          (c.lower-least.ensures (λ n. nat_lt number n && is_among place few.places n) (λ n. nat_lt number n && c.at.result == n) c.loop-place.invariant.1 c.above.ensures),
    )

pub returns : goal.returns
returns c = least_above_at_all c.loop-place.place c.args.self.now.count c.args.self.now.places c.args.number c.loop-place.least
    c.loop-place.invariant.0 (omega (arith, c.loop-place-test.false, c.args.self.now.fits)) c.loop-place.invariant.1
