use Rattle.std.proofs.Common.{refl}
use Rattle.state_deliveries.proofs.Identified.{ids_stay}
use Rattle.state_deliveries.proofs.by_id.ById.end.Goals as goal

pub returns : goal.returns
returns c = ids_stay c.args.self.now _ c.in_ok-end.ensures refl
