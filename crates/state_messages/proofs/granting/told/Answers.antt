use Rattle.std.proofs.Common.{◌++◌, ap}
use Rattle.route_credit.specs.Pool.{by_id}
use Rattle.state_messages.specs.Messages.{grants_on}
use Rattle.state_messages.proofs.Telling.{told_last, told_more}
use Rattle.state_messages.proofs.granting.told.Goals as goal

pub loop-sum-init : goal.loop-sum-init
loop-sum-init c = λ t fit share. ap (λ xs. xs ++ grants_on t (by_id c.args.sums.now)) c.new-told.ensures.items

pub loop-sum-preserved : goal.loop-sum-preserved
loop-sum-preserved c = λ t fit share. told_more t c.args.sums.now c.loop-sum.sum-index _ _ _ _ c.loop-sum-test.true (c.in_ok-add_grant.ensures t fit share) (c.loop-sum.invariant t fit share)

pub returns : goal.returns
returns c = λ t fit share. told_last t c.args.sums.now c.loop-sum.sum-index _ _ c.loop-sum-test.false (c.loop-sum.invariant t fit share)
