use Rattle.std.proofs.Common.{ap}
use Rattle.state_collections.specs.Places.{at, in_map}
use Rattle.state_deliveries.proofs.Listed.{none_listed}
use Rattle.state_deliveries.proofs.sending.Sending.all_on.Goals as goal

pub returns-in-None : goal.returns-in-None
returns-in-None c = none_listed (at c.args.self.now.numbers c.args.conn c.args.own) _ (λ h. ap (λ m. in_map m h) c.in-None.ensures) c.new.ensures.items
