use Rattle.std.proofs.Common.{ap, Some}
use Rattle.book_core.proofs.Steps.{row_admitted}
use Rattle.book_core.proofs.tables.Tables.admit.Goals as goal

pub returns-clause-shows : goal.returns-clause-shows
returns-clause-shows c b s applies =
    row_admitted c.args.self.now c.admit.new.self c.add.new.self c.in-Some.next c.in-Some-checked_add.rows b _ c.args.admission.now s (ap Some c.in_ok-row.ensures) (λ i. c.args.admission.now.row.0) c.in-Some.ensures.1 c.in-Some-checked_add.ensures.1 c.in_ok-add.ensures.ok applies c.in_ok-admit.ensures.indexed
