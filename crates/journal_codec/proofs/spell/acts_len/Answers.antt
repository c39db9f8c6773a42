use Rattle.journal_codec.proofs.Counted.{counted_more}
use Rattle.journal_codec.proofs.spell.acts_len.Goals as goal

pub loop-act-preserved : goal.loop-act-preserved
loop-act-preserved c = counted_more _ _ _ _ _ _ c.loop-act-test.true c.act-item.is c.loop-act.invariant c.in_ok-more.ensures c.in-Some.ensures.1
