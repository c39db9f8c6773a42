use Rattle.std.proofs.Common.{rules, ◌<◌, ◌^◌, ◌∙◌, ap, refl}
use Rattle.state_collections.specs.Ids.{at_id}
use Rattle.state_collections.specs.NumberMap.{at_number}
use Rattle.state_collections.proofs.Results.{on_ok}
use Rattle.amqp_session.specs.Ranges.{has}
use Rattle.state_deliveries.specs.Indexing.{is_by_place}
use Rattle.state_deliveries.proofs.Forgotten.{stays}
use Rattle.state_deliveries.proofs.Picked.{decided_one, decided_range}
use Rattle.state_deliveries.proofs.hearing.hear_one.Goals as goal

pub returns-then-first-last-clause-deliveries : goal.returns-then-first-last-clause-deliveries
returns-then-first-last-clause-deliveries c =
    let few : c.in-Decided.first < 2 ^ 32 = search rules in
    on_ok c.decide.result
    (λ decided kept indexed small n.
    decided_one c.args.change.now c.in-Decided.conn c.in-Decided.own c.in-Decided.first c.in-Decided.last c.in-Decided.outcome (at_id c.args.names.now.ids) n
    _ (at_number c.args.store.now.deliveries n) _ c.in-Decided.is few c.if-first-last.true (small c.in-Decided.conn c.in-Decided.own) refl (decided n))
    c.decide.ensures.deliveries

pub returns-in_ok-ids-in-Decided-clause-deliveries : goal.returns-in_ok-ids-in-Decided-clause-deliveries
returns-in_ok-ids-in-Decided-clause-deliveries c =
    on_ok c.decide_all.result
    (λ decided kept indexed small n.
    decided_range c.args.change.now c.in-Decided.conn c.in-Decided.own c.in-Decided.first c.in-Decided.last c.in-Decided.outcome (at_id c.args.names.now.ids) n
    _ (at_number c.args.store.now.deliveries n) _ c.in-Decided.is (small c.in-Decided.conn c.in-Decided.own) (λ id low. ap (has id) c.as_slice.ensures.value ∙ c.in_ok-ids-in-Decided.ensures id low) (decided (ap is_by_place c.in-Decided.is) kept n))
    c.decide_all.ensures.deliveries

pub returns-in_default-clause-names : goal.returns-in_default-clause-names
returns-in_default-clause-names c =
    on_ok c.apply.result (λ done d o id. stays (at_number c.apply.new.self.deliveries) (at_id c.args.names.now.ids d o id)) c.apply.ensures.indexed
