use Rattle.std.proofs.Common.{◌≡◌, []}
use Rattle.std.specs.Prelude.{None}
use Rattle.std.specs.Vec.Iter.{into_iter_items}
use Rattle.router_play.specs.Grouping.{grouped}
use Rattle.router_play.proofs.surviving.last_of.Given as goal

abbrev pub invariant-loop-entry : goal.invariant-loop-entry
invariant-loop-entry l = grouped l.last.number l.last.gate l.last.acts.items (into_iter_items l.entry-iterator) ≡ grouped l.fn.base None [] l.fn.listed.items
