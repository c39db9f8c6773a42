use Rattle.std.proofs.Common.{◌≡◌, ◌++◌, drop}
use Rattle.std.specs.Prelude.{filter}
use Rattle.state_collections.specs.NumberMap.{at_number}
use Rattle.router_trace.specs.Connection.{is_due}
use Rattle.state_connections.proofs.connections.Connections.gather.Given as goal

abbrev pub invariant-loop-conn : goal.invariant-loop-conn
invariant-loop-conn l =
    l.gathered.items ++ filter (λ k. is_due l.event k (at_number l.self.rows k)) (drop l.conn-index l.conn-items)
    ≡ filter (λ k. is_due l.event k (at_number l.self.rows k)) l.conn-items
