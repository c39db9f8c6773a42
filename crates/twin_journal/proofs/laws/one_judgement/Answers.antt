use Rattle.twin_journal.proofs.Decided.{judged}
use Rattle.twin_journal.proofs.Unique.{opens_or_damaged, opens_or_none, damaged_or_none, one_place}
use Rattle.twin_journal.proofs.laws.one_judgement.Goals as goal

pub returns-clause-some : goal.returns-clause-some
returns-clause-some c = judged

pub returns-clause-opens_or_damaged : goal.returns-clause-opens_or_damaged
returns-clause-opens_or_damaged c = opens_or_damaged

pub returns-clause-opens_or_none : goal.returns-clause-opens_or_none
returns-clause-opens_or_none c = opens_or_none

pub returns-clause-damaged_or_none : goal.returns-clause-damaged_or_none
returns-clause-damaged_or_none c = damaged_or_none

pub returns-clause-one_place : goal.returns-clause-one_place
returns-clause-one_place c = one_place
