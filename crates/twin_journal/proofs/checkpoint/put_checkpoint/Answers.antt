use Rattle.std.proofs.Common.{arith, refl, subst, List}
use Rattle.book_model.specs.declared.act.Act.{Act}
use Rattle.journal_codec.specs.Batches.{HaveOutcomes, HaveTermini, AreWritable}
use Rattle.twin_journal.proofs.Checked.{listed_book, put_parts}
use Rattle.twin_journal.proofs.Moments.{on_ok}
use Rattle.twin_journal.proofs.checkpoint.put_checkpoint.Goals as goal

pub returns-clause-put : goal.returns-clause-put
returns-clause-put c =
    on_ok c.put_acts.result
    (λ put. put_parts c.args.out.now.items c.put_8.new.out.items c.put_8-2.new.out.items c.put_acts.new.out.items c.next_terminus-next_terminus.result.0 c.next_row-next_row.result.0 c.args.acts.now c.args.book.now
    c.next_terminus-next_terminus.ensures c.next_row-next_row.ensures c.requires c.in_ok-put_8.ensures c.in_ok-put_8-2.ensures put)
    c.put_acts.ensures.put

pub returns-clause-is_read : goal.returns-clause-is_read
returns-clause-is_read c =
    let book = c.args.book.now in
    on_ok c.put_acts.result
    (λ writable written. listed_book _ book c.is_sound.ensures refl
    (omega (arith, c.if-next_terminus-gt-LARGEST.false, c.next_terminus-next_terminus.ensures)) (omega (arith, c.if-next_row-gt-LARGEST.false, c.next_row-next_row.ensures))
    (subst (λ (acts : List Act). HaveOutcomes acts → HaveTermini acts → AreWritable acts) c.requires writable written.outcomes written.termini))
    c.put_acts.ensures.writable
