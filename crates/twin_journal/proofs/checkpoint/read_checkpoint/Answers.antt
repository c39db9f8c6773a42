use Rattle.std.proofs.Common.{◌≡◌, ap, Err}
use Rattle.journal_codec.specs.declared.read.ReadFault.{ReadFault}
use Rattle.journal_codec.specs.declared.read.ReadFault.TheVariants.{Misspelt}
use Rattle.twin_journal.proofs.Checked.{no_second, no_acts, no_book}
use Rattle.twin_journal.proofs.checkpoint.read_checkpoint.Goals as goal

pub returns-in_default-small_number-clause-none : goal.returns-in_default-small_number-clause-none
returns-in_default-small_number-clause-none c misspelt book is =
    no_second c.args.bytes.now c.in-Some.rest.now c.in-Some.next_terminus c.in-Some.ensures.some c.in-Some.ensures.small book is c.in_default-small_number.ensures.none

pub returns-in-Err-clause-none : goal.returns-in-Err-clause-none
returns-in-Err-clause-none c misspelt book is =
    no_acts c.args.bytes.now c.in-Some.rest.now c.in-Some.next_terminus c.in-Some.ensures.some c.in-Some.ensures.small book is c.in-Some-small_number.inside.now c.in-Some-small_number.next_row c.in-Some-small_number.ensures.some
    c.in-Some-small_number.ensures.small (c.in-Err.ensures.none (ap (λ (f : ReadFault). Err f) (let is : c.in-Err.fault ≡ Misspelt = cc in is)))

pub returns-in-Ok-clause-none : goal.returns-in-Ok-clause-none
returns-in-Ok-clause-none c misspelt book is =
    no_book c.args.bytes.now c.in-Some.rest.now c.in-Some.next_terminus c.in-Some.ensures.some c.in-Some.ensures.small book is c.in-Some-small_number.inside.now c.in-Some-small_number.next_row c.in-Some-small_number.ensures.some
    c.in-Some-small_number.ensures.small c.in-Ok.acts.items c.in-Ok.ensures.writable c.in-Ok.ensures.spelled (rw c.as_slice.ensures.value at (c.restored.ensures.none misspelt))
