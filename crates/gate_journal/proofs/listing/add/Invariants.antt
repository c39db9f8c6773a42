use Rattle.std.proofs.Common.{◌≡◌, ◌++◌}
use Rattle.std.specs.Vec.Iter.{into_iter_items}
use Rattle.gate_journal.specs.Listing.{placed}
use Rattle.gate_journal.proofs.listing.add.Given as goal

abbrev pub invariant-loop-act : goal.invariant-loop-act
invariant-loop-act l = l.entries.items ++ placed l.place (into_iter_items l.act-iterator) ≡ l.fn.entries.items ++ placed l.place l.fn.acts.items
