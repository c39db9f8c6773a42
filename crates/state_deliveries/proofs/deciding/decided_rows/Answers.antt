use Rattle.std.proofs.Common.{◌∙◌, ◌++◌, ap}
use Rattle.std.specs.List.{flat_map}
use Rattle.state_collections.specs.NumberMap.{at_number}
use Rattle.state_deliveries.specs.Deciding.{decision_of}
use Rattle.state_deliveries.proofs.Decided.{decided_is}
use Rattle.state_deliveries.proofs.deciding.decided_rows.Goals as goal

pub returns : goal.returns
returns c = λ t fit.
    c.in_ok-append_decisions.ensures.rows
    ∙ ap (λ xs. xs ++ flat_map (λ n. decision_of c.args.changes.now (at_number c.args.store.now.deliveries n)) c.in_ok-numbers.numbers.keys) c.new-rows.ensures.items
    ∙ decided_is c.args.store.now t c.args.changes.now c.in_ok-numbers.numbers fit c.in_ok-append_decisions.ensures.rise (c.in_ok-numbers.ensures fit.indexed)
