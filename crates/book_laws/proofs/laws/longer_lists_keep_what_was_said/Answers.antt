use Rattle.book_laws.proofs.Joining.{admission_app, decision_app, forgotten_app, made_app, dropped_app}
use Rattle.book_laws.proofs.laws.longer_lists_keep_what_was_said.Goals as goal

pub returns-clause-admissions : goal.returns-clause-admissions
returns-clause-admissions c = admission_app

pub returns-clause-decisions : goal.returns-clause-decisions
returns-clause-decisions c = decision_app

pub returns-clause-forgets : goal.returns-clause-forgets
returns-clause-forgets c = forgotten_app

pub returns-clause-makes : goal.returns-clause-makes
returns-clause-makes c = made_app

pub returns-clause-drops : goal.returns-clause-drops
returns-clause-drops c = dropped_app
