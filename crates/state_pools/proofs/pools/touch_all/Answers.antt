use Rattle.std.proofs.Common.{refl}
use Rattle.state_pools.proofs.Touches.{touched_all, touched_more}
use Rattle.state_pools.proofs.pools.touch_all.Goals as goal

pub loop-sum-init : goal.loop-sum-init
loop-sum-init c = λ n. refl

pub loop-sum-preserved : goal.loop-sum-preserved
loop-sum-preserved c n = touched_more c.args.sums.now c.loop-sum.sum-index _ n _ _ _ c.loop-sum-test.true (c.in_ok-insert.ensures n) (c.loop-sum.invariant n)

pub returns : goal.returns
returns c n = touched_all c.args.sums.now c.loop-sum.sum-index n _ _ c.loop-sum-test.false (c.loop-sum.invariant n)
