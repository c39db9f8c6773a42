use Rattle.std.proofs.Common.{◌≡◌, ◌++◌, List, drop}
use Rattle.router_trace.specs.Trace.{Entry}
use Rattle.state_links.specs.Fits.{LinksFit}
use Rattle.state_messages.specs.Asking.{standing}
use Rattle.state_messages.proofs.Copied.{ids}
use Rattle.state_messages.proofs.copies.places.Given as goal

-- the places added and those still to come are all
abbrev pub invariant-loop-consumer : goal.invariant-loop-consumer
invariant-loop-consumer l = (t : List Entry) → LinksFit l.links t → l.places.items ++ standing t (ids (drop l.consumer-index l.consumers)) ≡ standing t (ids l.fn.consumers)
