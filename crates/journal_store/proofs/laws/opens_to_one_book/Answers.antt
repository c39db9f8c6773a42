use Rattle.twin_journal.proofs.Unique.{opens_or_damaged, opens_or_none}
use Rattle.journal_store.proofs.Opened.{opens_to_one}
use Rattle.journal_store.proofs.laws.opens_to_one_book.Goals as goal

pub returns-clause-one : goal.returns-clause-one
returns-clause-one c = opens_to_one

pub returns-clause-is_journal : goal.returns-clause-is_journal
returns-clause-is_journal c = opens_or_none

pub returns-clause-is_whole : goal.returns-clause-is_whole
returns-clause-is_whole c = λ contents book place opens damaged. opens_or_damaged contents book place opens damaged
