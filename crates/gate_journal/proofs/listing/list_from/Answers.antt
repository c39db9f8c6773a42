use Rattle.std.proofs.Common.{ap, arith, length, length-append}
use Rattle.journal_codec.specs.Format.{batch}
use Rattle.gate_journal.proofs.Walks.{next_stops}
use Rattle.gate_journal.proofs.Lists.{list_none, list_more, list_ends}
use Rattle.gate_journal.proofs.listing.list_from.Goals as goal

pub loop-inside-init : goal.loop-inside-init
loop-inside-init c = (c.requires.within, λ head begins. rw c.new-entries.ensures.items (list_none head _ _ _ begins.is begins.some))

pub returns-in-Err-clause-fault : goal.returns-in-Err-clause-fault
returns-in-Err-clause-fault c head begins =
    next_stops head _ _ _ _ _ _ c.in-Err.fault (c.loop-inside.invariant.1 head begins).walked c.in-Some.ensures.open_gate c.in-Err.ensures.fault

pub loop-inside-preserved : goal.loop-inside-preserved
loop-inside-preserved c = (
  omega (
    arith,
    c.loop-inside.invariant.0,
    ap length c.in-Some.ensures.open_gate,
    ap length c.in-Ok.ensures.spelled,
    length-append (batch c.in-Ok.acts.items) c.in-Ok.behind.now,
  ),
  λ head begins.
      list_more head _ _ _ _ _ _ _ _ _ c.in-Ok.acts.items (c.loop-inside.invariant.1 head begins) c.in-Some.ensures.open_gate c.in-Ok.ensures.spelled c.in-Ok.ensures.is_batch c.in-Ok.ensures.behind
      c.in-Ok.ensures.applies c.in-Ok.ensures.applied c.in_ok-add-in-Ok.ensures,
)

pub returns-clause-listed : goal.returns-clause-listed
returns-clause-listed c head begins = list_ends head _ _ _ _ _ (c.loop-inside.invariant.1 head begins) c.in_default.ensures.shut_gate
