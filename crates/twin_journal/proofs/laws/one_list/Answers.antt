use Rattle.twin_journal.proofs.Unique.{same_list}
use Rattle.twin_journal.proofs.laws.one_list.Goals as goal

pub returns-clause-base : goal.returns-clause-base
returns-clause-base c contents base other start book bs cs h i = (same_list contents base other start book bs cs h i).bases

pub returns-clause-start : goal.returns-clause-start
returns-clause-start c contents base other start book bs cs h i = (same_list contents base other start book bs cs h i).starts

pub returns-clause-batches : goal.returns-clause-batches
returns-clause-batches c contents base other start book bs cs h i = (same_list contents base other start book bs cs h i).lists
