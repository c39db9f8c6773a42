use Rattle.std.proofs.Common.{refl, rules}
use Rattle.state_connections.proofs.Turns.{came_up}
use Rattle.state_connections.proofs.connections.Connections.up.Goals as goal

pub returns : goal.returns
returns c = λ t at rise. came_up c.args.self.now _ t c.args.conn c.args.peer.now
    (record { rows = search rules; live = c.in_ok-join.ensures; last = refl; roomy = refl }) at rise
