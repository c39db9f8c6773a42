use Rattle.state_deliveries.proofs.Handled.{handles_stay}
use Rattle.state_deliveries.proofs.handles.Handles.end.Goals as goal

pub returns : goal.returns
returns c = handles_stay c.args.self.now _ c.in_ok-end.ensures
