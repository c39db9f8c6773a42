use Rattle.std.proofs.Common.{refl}
use Rattle.book_model.specs.Book.{decided}
use Rattle.book_core.proofs.Looked.{row_missing}
use Rattle.book_core.proofs.Steps.{row_stays, row_gone, row_decided}
use Rattle.book_core.proofs.tables.Tables.decide.Goals as goal

pub returns-in-None-clause-shows : goal.returns-in-None-clause-shows
returns-in-None-clause-shows c b s applies =
    let missing = rw c.deref.ensures.value at c.in-None.ensures.missing in
    row_stays c.args.self.now b c.args.decision.now.row.0 (decided c.args.decision.now.outcome) s (row_missing _ _ (missing s.rows_rise))

pub returns-in-None-row-clause-shows : goal.returns-in-None-row-clause-shows
returns-in-None-row-clause-shows c b s applies =
    let found = rw c.deref.ensures.value at c.in-Some.ensures.found in
    row_stays c.args.self.now b c.args.decision.now.row.0 (decided c.args.decision.now.outcome) s (row_gone _ _ _ _ s.rows_rise found c.index.ensures c.in-None-row.is)

pub returns-in_ok-replace-in-Some-row-clause-shows : goal.returns-in_ok-replace-in-Some-row-clause-shows
returns-in_ok-replace-in-Some-row-clause-shows c b s applies =
    let found = rw c.deref.ensures.value at c.in-Some.ensures.found in
    row_decided c.args.self.now c.decide.new.self c.replace.new.self c.rows_after-rows.result b c.args.decision.now.row.0 c.in-Some.at _ _ c.in-Some-row.row c.args.decision.now.outcome s found c.index.ensures c.in-Some-row.is c.in_ok-after-in-Some-row.ensures.row refl c.in_ok-replace-in-Some-row.ensures.ok applies c.in_ok-decide-in-Some-row.ensures.indexed c.rows_after-rows.ensures
