use Rattle.std.proofs.Common.{◌≡◌, Err, arith, ap}
use Rattle.journal_codec.proofs.Scans.{none_inside, none_of_acts, inside_forth, batch_is, is_batch}
use Rattle.journal_codec.specs.declared.read.ReadFault.{ReadFault}
use Rattle.journal_codec.specs.declared.read.ReadFault.TheVariants.{Misspelt}
use Rattle.journal_codec.proofs.batch.read_batch.Goals as goal

pub returns-in-Err-clause-none : goal.returns-in-Err-clause-none
returns-in-Err-clause-none c misspelt =
    none_inside c.args.bytes.now c.in-Err.fault c.in-Err.ensures (let is : c.in-Err.fault ≡ Misspelt = cc in is)

pub returns-in-Err-read_acts-clause-none : goal.returns-in-Err-read_acts-clause-none
returns-in-Err-read_acts-clause-none c misspelt =
    none_of_acts c.args.bytes.now c.in-Ok.inside.now c.in-Ok.behind.now c.in-Ok.ensures (c.in-Err-read_acts.ensures.none (let is : c.in-Err-read_acts.fault ≡ Misspelt = cc in ap (λ (f : ReadFault). Err f) is))

pub returns-in-Ok-read_acts-clause-spelled : goal.returns-in-Ok-read_acts-clause-spelled
returns-in-Ok-read_acts-clause-spelled c =
    batch_is _ _ _ _ (inside_forth c.args.bytes.now c.in-Ok.inside.now c.in-Ok.behind.now (record { each = λ i. omega (arith, c.type_inv.bytes i) }) c.in-Ok.ensures) c.in-Ok-read_acts.ensures.spelled

pub returns-in-Ok-read_acts-clause-is_batch : goal.returns-in-Ok-read_acts-clause-is_batch
returns-in-Ok-read_acts-clause-is_batch c =
    is_batch _ _ _ _ (inside_forth c.args.bytes.now c.in-Ok.inside.now c.in-Ok.behind.now (record { each = λ i. omega (arith, c.type_inv.bytes i) }) c.in-Ok.ensures) c.in-Ok-read_acts.ensures.spelled c.in-Ok-read_acts.ensures.writable

pub returns-in-Ok-read_acts-clause-behind : goal.returns-in-Ok-read_acts-clause-behind
returns-in-Ok-read_acts-clause-behind c =
    (inside_forth c.args.bytes.now c.in-Ok.inside.now c.in-Ok.behind.now (record { each = λ i. omega (arith, c.type_inv.bytes i) }) c.in-Ok.ensures).gate
