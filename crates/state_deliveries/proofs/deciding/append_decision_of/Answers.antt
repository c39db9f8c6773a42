use Rattle.std.proofs.Common.{◌∙◌, ◌++◌, sym, ap}
use Rattle.state_deliveries.proofs.Decided.{with_row}
use Rattle.state_collections.proofs.Results.{on_ok}
use Rattle.state_deliveries.proofs.deciding.append_decision_of.Goals as goal

pub returns-in_ok-outcome_after-in-Some : goal.returns-in_ok-outcome_after-in-Some
returns-in_ok-outcome_after-in-Some c = on_ok c.append_outcome.result
    (λ more. more ∙ ap (λ xs. c.args.rows.now.items ++ xs)
    (with_row c.args.changes.now c.args.delivery.now c.in-Some.row c.in_ok-outcome_after-in-Some.field-0 (sym c.open_row.ensures ∙ c.in-Some.is) c.in_ok-outcome_after-in-Some.ensures))
    c.append_outcome.ensures
