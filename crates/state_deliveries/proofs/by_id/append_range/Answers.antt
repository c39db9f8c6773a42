use Rattle.std.proofs.Common.{◌∙◌, ap, drop, ℕ}
use Rattle.std.specs.List.{list_any}
use Rattle.std.specs.Prelude.{is_some}
use Rattle.std.proofs.lemmas.List.{drop_all}
use Rattle.amqp_session.specs.Ranges.{has}
use Rattle.state_collections.specs.NumberMap.{at_number}
use Rattle.router_trace.specs.Deliveries.{is_number}
use Rattle.state_deliveries.proofs.Picked.{at_end}
use Rattle.state_deliveries.proofs.Placed.{same_number}
use Rattle.state_deliveries.proofs.Rowed.{any_here, or_right}
use Rattle.state_deliveries.proofs.by_id.append_range.Goals as goal

pub returns-clause-found : goal.returns-clause-found
returns-clause-found c = λ id n low inside is.
    let pick = λ (j : ℕ). is_number (at_number c.args.row.now j) n in
    let ids = c.deref-id-items.result.now in
    at_end pick (drop c.loop-id.id-index ids) (has n c.loop-id.numbers.items) _ (drop_all c.loop-id.id-index ids c.loop-id-test.false) (c.loop-id.invariant n)
    ∙ or_right (has n c.args.numbers.now.items) (list_any pick ids)
    (any_here pick id ids
    (ap (has id) c.deref-id-items.ensures.value ∙ c.in_ok-ids.ensures id low inside ∙ ap is_some is)
    (ap (λ v. is_number v n) is ∙ same_number n))
