use Rattle.std.proofs.Common.{◌≡◌, ◌≤◌, ◌+◌, ◌++◌, length}
use Rattle.std.specs.Prelude.{map, vec_len, vec_capacity}
use Rattle.std.specs.Vec.Iter.{into_iter_items}
use Rattle.core_runs.specs.Runs.{as_sent}
use Rattle.core_runs.proofs.driving.append.Given as goal

abbrev pub invariant-loop-item : goal.invariant-loop-item
invariant-loop-item l = record {
  items : l.taken.items ++ map (as_sent l.group l.conn) (into_iter_items l.item-iterator) ≡ l.fn.taken.items ++ map (as_sent l.group l.conn) l.fn.items.items;
  room : vec_len l.taken + length (into_iter_items l.item-iterator) ≤ vec_capacity l.taken;
}
