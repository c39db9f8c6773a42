use Rattle.journal_store.proofs.Sound.{opened_sound, sound_is_ordered}
use Rattle.journal_store.proofs.Started.{start_applies, start_small, start_outcomes, start_fits}
use Rattle.journal_store.proofs.laws.start_can_be_written.Goals as goal

pub returns-clause-applies : goal.returns-clause-applies
returns-clause-applies c = λ contents book opens. start_applies book (sound_is_ordered book (opened_sound contents book opens)).rows_rise

pub returns-clause-small : goal.returns-clause-small
returns-clause-small c = λ contents book opens. start_small book (opened_sound contents book opens).few_rows

pub returns-clause-outcomes : goal.returns-clause-outcomes
returns-clause-outcomes c = start_outcomes

pub returns-clause-never_full : goal.returns-clause-never_full
returns-clause-never_full c = start_fits
