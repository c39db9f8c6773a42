use Rattle.std.proofs.Common.{arith}
use Rattle.twin_journal.proofs.Sizes.{checkpoint_grows}
use Rattle.twin_journal.proofs.plan.Plan.needs.Goals as goal

pub returns : goal.returns
returns c b acts spells up applies suits size = record {
  reserve_is = suits.reserve_is;
  within = omega (arith, size c.if-not-self.false, checkpoint_grows b acts up applies, c.in_ok-checked_add.ensures.1, spells.costs.bytes_are);
}
