use Rattle.state_collections.specs.NumberMap.{at_number}
use Rattle.state_deliveries.specs.Indexing.{standing}
use Rattle.state_deliveries.proofs.store.Store.leave.Goals as goal

pub returns-in_ok-end-clause-indexed : goal.returns-in_ok-end-clause-indexed
returns-in_ok-end-clause-indexed c = λ before. record {
  indexes = c.in_ok-end.ensures (λ n. standing (at_number c.args.self.now.deliveries n)) before.indexes;
  called = before.called;
}
