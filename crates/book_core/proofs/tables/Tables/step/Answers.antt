use Rattle.std.proofs.Common.{sym}
use Rattle.book_core.proofs.tables.Tables.step.Goals as goal

pub returns-in-Ok-clause-step : goal.returns-in-Ok-clause-step
returns-in-Ok-clause-step c b s =
    let none = rw c.in-Ok-None.field-0-is at (c.in-Ok-None.ensures b s) in
    (sym none, c.in-Ok.ensures.shows b s (sym none))
