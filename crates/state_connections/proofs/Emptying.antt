-- Nothing waits in an outbox that was emptied.
use Rattle.std.proofs.Common.{◌≡◌, refl, [], Option, Some, None, option_map}
use Rattle.router_trace.specs.Connection.{Connection}
use Rattle.state_connections.specs.Emptied.{emptied, waiting_of}

pub none_waits : (v : Option Connection) → waiting_of (option_map emptied v) ≡ []
none_waits None = refl
none_waits (Some v) = refl
