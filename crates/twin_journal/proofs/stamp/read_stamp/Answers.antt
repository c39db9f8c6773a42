use Rattle.std.proofs.Common.{◌≡◌, ap, Err}
use Rattle.journal_codec.specs.declared.read.ReadFault.{ReadFault}
use Rattle.journal_codec.specs.declared.read.ReadFault.TheVariants.{Misspelt}
use Rattle.twin_journal.proofs.Stamped.{no_stamp}
use Rattle.twin_journal.proofs.stamp.read_stamp.Goals as goal

pub returns-in-Err-clause-none : goal.returns-in-Err-clause-none
returns-in-Err-clause-none c misspelt =
    no_stamp c.args.bytes.now c.in-Some.fields.epoch c.in-Some.fields.base c.in-Some.fields.checkpoint.now c.in-Some.fields.behind.now c.in-Some.ensures.some
    (c.in-Err.ensures.none (ap (λ (f : ReadFault). Err f) (let is : c.in-Err.fault ≡ Misspelt = cc in is)))
