use Rattle.journal_codec.proofs.Spelled.{acts_more, writable_more}
use Rattle.journal_codec.proofs.spell.put_acts.Goals as goal

pub loop-act-preserved : goal.loop-act-preserved
loop-act-preserved c = record {
  put = acts_more _ _ _ _ _ _ c.loop-act-test.true c.act-item.is c.loop-act.invariant.put c.in_ok-put_act.ensures.put;
  writable = writable_more _ _ _ c.loop-act-test.true c.act-item.is c.loop-act.invariant.writable c.in_ok-put_act.ensures.writable;
}
