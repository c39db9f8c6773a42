use Rattle.std.proofs.Common.{◌≡◌, ℕ, List}
use Rattle.state_collections.specs.NumberMap.{at_number}
use Rattle.router_trace.specs.Trace.{Entry}
use Rattle.router_trace.specs.Deliveries.{delivery}
use Rattle.state_deliveries.specs.Naming.{NamesFit}
use Rattle.state_deliveries.proofs.names.Names.settle_at.Given as goal

abbrev pub invariant-loop-place : goal.invariant-loop-place
invariant-loop-place l = (t : List Entry) → ((n : ℕ) → at_number l.store.deliveries n ≡ delivery t n) → NamesFit l.fn.self t → NamesFit l.self t
