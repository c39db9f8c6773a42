use Rattle.journal_codec.proofs.Kept.{is_kept, keeps_itself}
use Rattle.gate_journal.proofs.laws.outcomes_are_kept.Goals as goal

pub returns-clause-outcome : goal.returns-clause-outcome
returns-clause-outcome c = λ state kept is. (is_kept state kept is).outcome

pub returns-clause-short : goal.returns-clause-short
returns-clause-short c = λ state kept is. (is_kept state kept is).short

pub returns-clause-spelling : goal.returns-clause-spelling
returns-clause-spelling c = λ state kept is. (is_kept state kept is).same

pub returns-clause-itself : goal.returns-clause-itself
returns-clause-itself c = keeps_itself
