-- When the table of peers agrees with a trace.
use Rattle.std.specs.Prelude.{◌≡◌, ℕ}
use Rattle.state_collections.specs.NumberMap.{at_number}
use Rattle.state_connections.specs.declared.peers.Peers.{Peers}
use Rattle.router_trace.specs.Trace.{Trace}
use Rattle.router_trace.specs.Peers.{user, container}

pub record PeersFit (s : Peers) (t : Trace) : Type 0 where
  pub users : (c : ℕ) → at_number s.users c ≡ user t c
  pub containers : (c : ℕ) → at_number s.containers c ≡ container t c
