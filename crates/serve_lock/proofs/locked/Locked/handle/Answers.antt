use Rattle.serve_lock.proofs.Queues.{leaves_held, leaves_next}
use Rattle.serve_lock.proofs.locked.Locked.handle.Goals as goal

-- what was held is written, and the event was handled, or met a fault
pub returns-in-Ok-clause-leaves : goal.returns-in-Ok-clause-leaves
returns-in-Ok-clause-leaves g c = λ t b fits holds. leaves_next g.M.Machine.meaning c.handle_next.new.self.router b t c.args.event
    (c.handle_next.ensures.leaves t (c.in-Ok.ensures.fits t fits) (c.in-Ok.ensures.keeps t b fits holds))

-- it couldn't be written
pub returns-in-Err-clause-leaves : goal.returns-in-Err-clause-leaves
returns-in-Err-clause-leaves g c = λ t b fits holds. leaves_held g.M.Machine.meaning c.write.new.self.router b t c.args.event (c.in-Err.ensures.leaves t b fits holds)
