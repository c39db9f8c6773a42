use Rattle.router_core.proofs.Grouped.{IsFar}
use Rattle.router_core.proofs.router.Core.hold_all.Given as goal

abbrev pub invariant-loop-turn : goal.invariant-loop-turn
invariant-loop-turn g l = IsFar g.T.Twin.seen g.T.Twin.may_leave g.T.Twin.moment g.T.Twin.left_since g.T.Twin.failures l.fn.events.items l.fn.self l.events.items l.self l.done.items l._turn
