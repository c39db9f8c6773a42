use Rattle.std.proofs.Common.{◌≡◌, ℕ, drop}
use Rattle.state_collections.specs.NumberMap.{at_number}
use Rattle.router_trace.specs.Connection.{unless_due}
use Rattle.state_connections.proofs.connections.Connections.end_all.Given as goal

-- once the rest is ended too, all are
abbrev pub invariant-loop-conn : goal.invariant-loop-conn
invariant-loop-conn l = record {
  rows : (c : ℕ) → unless_due (drop l.conn-index l.ends) (at_number l.self.rows) c ≡ unless_due l.fn.ends (at_number l.fn.self.rows) c;
  live : l.self.live ≡ l.fn.self.live;
  last : l.self.newest ≡ l.fn.self.newest;
  roomy : l.self.roomy ≡ l.fn.self.roomy;
}
