use Rattle.std.proofs.Common.{◌∙◌, [], ◌∷◌, ap}
use Rattle.state_collections.specs.NumberMap.{at_number}
use Rattle.amqp_session.specs.Ranges.{has}
use Rattle.state_deliveries.specs.Indexing.{standing}
use Rattle.state_deliveries.proofs.Again.{one_more}
use Rattle.state_deliveries.proofs.Keys.{where_stands}
use Rattle.state_deliveries.proofs.Reindexed.{sole_found}
use Rattle.state_deliveries.proofs.store.Store.change_concerned.Goals as goal

pub returns-in-Some-clause-deliveries : goal.returns-in-Some-clause-deliveries
returns-in-Some-clause-deliveries c = λ placed keeps indexed n.
    let before = at_number c.args.self.now.deliveries n in
    let k = c.in-Some.number in
    where_stands c.args.change.now placed (has n (k ∷ [])) before _ (one_more c.args.change.now n k [] before _ (c.in_ok-change.ensures.deliveries n))
    (sole_found c.args.self.now.index c.args.change.now c.sole.result k c.in-Some.is c.sole.ensures (λ m. standing (at_number c.args.self.now.deliveries m)) indexed.indexes n)
    (keeps n)

pub returns-clause-deliveries : goal.returns-clause-deliveries
returns-clause-deliveries c = λ placed keeps indexed n.
    where_stands c.args.change.now placed (has n c.as_slice.result.now) (at_number c.args.self.now.deliveries n) _ (c.in_ok-change_all.ensures.deliveries n)
    (λ there. ap (has n) c.as_slice.ensures.value ∙ c.in_ok-numbers.ensures (λ m. standing (at_number c.args.self.now.deliveries m)) indexed.indexes n there)
    (keeps n)
