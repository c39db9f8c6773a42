use Rattle.std.proofs.Common.{refl}
use Rattle.state_connections.proofs.Turns.{went_down}
use Rattle.state_connections.proofs.connections.Connections.down.Goals as goal

pub returns : goal.returns
returns c = λ t at. went_down _ _ t _ (record { rows = c.remove_row.ensures; live = c.leave.ensures; last = refl; roomy = refl }) at
