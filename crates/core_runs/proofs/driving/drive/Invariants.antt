use Rattle.std.proofs.Common.{◌≡◌, ◌+◌, ◌++◌, List, length, true}
use Rattle.std.specs.Vec.Iter.{into_iter_items}
use Rattle.router_trace.specs.Trace.{Entry}
use Rattle.router_trace.specs.declared.event.Event.{Event}
use Rattle.disk_core.specs.Disk.{LeavesOnly}
use Rattle.journal_store.specs.Store.{Stands, twin_of}
use Rattle.router_core.specs.Handling.{Fits, id_of, is_failed, store_of}
use Rattle.core_runs.specs.Leaving.{LeftBy}
use Rattle.core_runs.specs.Runs.{Run, events_of}
use Rattle.core_runs.proofs.driving.drive.Given as goal

-- the groups before the remaining ones were run
abbrev pub invariant-loop-group : goal.invariant-loop-group
invariant-loop-group g l = record {
  past : (t : List Entry) → Fits l.fn.core t → (first : List (List Event)) × (m : List Entry) × (events_of l.fn.groups.items ≡ first ++ events_of (into_iter_items l.group-iterator))
      × (l.handled ≡ length first) × Run (id_of l.fn.core) 0 t first l.taken.items m × Fits l.core m;
  works : is_failed l.core ≡ true → is_failed l.fn.core ≡ true;
  named : id_of l.core ≡ id_of l.fn.core;
  stands : Stands g.T.Twin.seen g.T.Twin.may_leave (store_of l.fn.core) → Stands g.T.Twin.seen g.T.Twin.may_leave (store_of l.core);
  moments : (t : List Entry) → Fits l.fn.core t → Stands g.T.Twin.seen g.T.Twin.may_leave (store_of l.fn.core)
      → LeavesOnly g.T.Twin.moment g.T.Twin.left_since (twin_of (store_of l.fn.core)) (twin_of (store_of l.core)) (LeftBy (id_of l.fn.core) t (events_of l.fn.groups.items));
  failures : g.T.Twin.failures (twin_of (store_of l.core)) ≡ g.T.Twin.failures (twin_of (store_of l.fn.core));
  count : l.handled + length (into_iter_items l.group-iterator) ≡ length l.fn.groups.items;
}
