use Rattle.serve_lock.proofs.Queues.{IsFar}
use Rattle.serve_lock.proofs.locked.Locked.hold_items.Given as goal

abbrev pub invariant-loop-turn : goal.invariant-loop-turn
invariant-loop-turn g l = IsFar g.M.Machine.meaning l.fn.conn l.fn.items.items l.items.items l.fn.seat l.seat l.fn.self.router l.self.router l.fn.self.full l.self.full l._turn l.wrote
