use Rattle.state_collections.specs.NumberMap.{at_number}
use Rattle.state_deliveries.specs.Indexing.{standing}
use Rattle.state_deliveries.proofs.store.Store.deciding_by.Goals as goal

pub returns : goal.returns
returns c = λ indexed. c.in_ok-deciding_by.ensures (λ n. standing (at_number c.args.self.now.deliveries n)) indexed.indexes
