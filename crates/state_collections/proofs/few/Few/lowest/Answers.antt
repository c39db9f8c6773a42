use Rattle.std.proofs.Common.{◌==◌, arith}
use Rattle.state_collections.specs.Among.{is_among}
use Rattle.state_collections.proofs.Among.{none_so_far}
use Rattle.state_collections.proofs.Leasts.{itself, least_at_all, least_so_far}
use Rattle.state_collections.proofs.few.Few.lowest.Goals as goal

pub loop-place-init : goal.loop-place-init
loop-place-init c = (omega arith, λ n. none_so_far c.args.self.now.places n)

pub loop-place-preserved : goal.loop-place-preserved
loop-place-preserved c =
    let few = c.args.self.now in
    let place = c.loop-place.place in (
      omega (arith, c.loop-place.invariant.0, c.if-place-self.false),
      least_so_far place few.places c.at.result c.lower-least.result
          (omega (arith, c.loop-place-test.true, few.four)) c.at.ensures
          (c.lower-least.ensures (λ n. is_among place few.places n) (λ n. c.at.result == n) c.loop-place.invariant.1 (itself c.at.result)),
    )

pub returns : goal.returns
returns c = least_at_all c.loop-place.place c.args.self.now.count c.args.self.now.places c.loop-place.least
    c.loop-place.invariant.0 (omega (arith, c.loop-place-test.false, c.args.self.now.fits)) c.loop-place.invariant.1
