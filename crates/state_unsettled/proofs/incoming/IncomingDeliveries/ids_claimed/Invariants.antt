use Rattle.router_trace.proofs.Ranges.{AreCopied}
use Rattle.state_unsettled.proofs.incoming.IncomingDeliveries.ids_claimed.Given as goal

-- the ids copied so far, and those still to come
abbrev pub invariant-loop-id : goal.invariant-loop-id
invariant-loop-id l = AreCopied l.found.items l.id-index l.id-items
