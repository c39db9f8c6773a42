use Rattle.std.specs.Vec.Iter.{into_iter_items}
use Rattle.core_runs.proofs.Partway.{IsPartway}
use Rattle.core_runs.proofs.driving.handle_group.Given as goal

-- the events before the remaining ones were handled
abbrev pub invariant-loop-event : goal.invariant-loop-event
invariant-loop-event g l = IsPartway g.T.Twin.seen g.T.Twin.may_leave g.T.Twin.moment g.T.Twin.left_since g.T.Twin.failures l.fn.group.items l.fn.core (into_iter_items l.event-iterator) l.core
