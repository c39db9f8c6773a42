use Rattle.std.proofs.Common.{◌∙◌, sym, ap, refl, Err}
use Rattle.book_model.specs.Book.{first_fault}
use Rattle.journal_codec.specs.declared.read.ReadFault.{ReadFault}
use Rattle.gate_journal.proofs.Walks.{none_reads, refused_next}
use Rattle.gate_journal.proofs.scan.next_batch.Goals as goal

pub returns-in-Err-Misspelt-clause-fault : goal.returns-in-Err-Misspelt-clause-fault
returns-in-Err-Misspelt-clause-fault c =
    (refl, none_reads c.args.book.now c.args.inside.now (c.in-Err-Misspelt.ensures.none (ap (λ (f : ReadFault). Err f) c.in-Err-Misspelt.field-0-is)))

pub returns-in-Err-clause-fault : goal.returns-in-Err-clause-fault
returns-in-Err-clause-fault c =
    rw c.refused.ensures
    (refused_next c.args.inside.now c.in-Ok.behind.now c.args.book.now c.args.at c.in-Ok.acts.items c.in-Err.fault
    (λ other. ap (first_fault c.args.book.now) (sym c.as_slice.ensures.value) ∙ c.in-Err.ensures.first other)
    c.in-Ok.ensures.spelled c.in-Ok.ensures.is_batch)
