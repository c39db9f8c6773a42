use Rattle.std.proofs.Common.{◌∙◌, refl, ap, subst, drop, List, ℕ, Err}
use Rattle.journal_codec.specs.declared.read.ReadFault.{ReadFault}
use Rattle.twin_journal.specs.Checkpoints.{NoStamp}
use Rattle.twin_journal.proofs.opened.read_head.Goals as goal

pub returns-in-Err-Misspelt-clause-fault : goal.returns-in-Err-Misspelt-clause-fault
returns-in-Err-Misspelt-clause-fault c inside is = (
  refl,
  subst (λ (l : List ℕ). NoStamp l) (c.split_at.ensures.back ∙ ap (drop 9) is) (c.in-Err-Misspelt.ensures.none (ap (λ (f : ReadFault). Err f) c.in-Err-Misspelt.field-0-is)),
)
