use Rattle.std.proofs.Common.{length}
use Rattle.router_serve.specs.Submitting.{CountsGone}
use Rattle.router_serve.proofs.reader.submit_all.Given as goal

abbrev pub invariant-loop-conn : goal.invariant-loop-conn
invariant-loop-conn g l = CountsGone l.fn.seat l.seat l.fn.items.items l.items.items

abbrev pub decreases-loop-conn : goal.decreases-loop-conn
decreases-loop-conn g l = length l.items.items
