use Rattle.std.proofs.Common.{arith}
use Rattle.gate_journal.proofs.Reserves.{acts_follow}
use Rattle.twin_journal.proofs.Sizes.{checkpoint_grows}
use Rattle.twin_journal.proofs.figures.Needs.after.Goals as goal

pub returns : goal.returns
returns c b acts cost suits up applies = record {
  reserve_is =
      omega (arith, suits.reserve_is, cost.growth_is, cost.release_is, (acts_follow b acts up applies).sums, c.in_ok-checked_add.ensures.1, c.saturating_sub.ensures);
  within = omega (arith, suits.within, checkpoint_grows b acts up applies, c.in_ok-checked_add-2.ensures.1, cost.bytes_are);
}
