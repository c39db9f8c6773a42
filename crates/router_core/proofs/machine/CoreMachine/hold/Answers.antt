use Rattle.router_core.specs.Handling.{id_of}
use Rattle.router_core.proofs.Books.{started_handled}
use Rattle.router_core.proofs.Committing.{some_weaker}
use Rattle.router_core.proofs.Machines.{batches_next, fits_next, holds_next, if_ok_weaker, leaves_either, on_ok}
use Rattle.router_core.proofs.machine.CoreMachine.hold.Goals as goal

pub returns-clause-fits : goal.returns-clause-fits
returns-clause-fits g c =
    on_ok c.hold.result (λ more t f. fits_next c.hold.new.self (id_of c.args.self.now) t c.args.event (more t f)) c.hold.ensures.fits

pub returns-clause-batches : goal.returns-clause-batches
returns-clause-batches g c =
    on_ok c.hold.result (λ more t f. batches_next c.args.self.now c.hold.new.self (id_of c.args.self.now) t c.args.event f (fits_next c.hold.new.self (id_of c.args.self.now) t c.args.event (more t f))) c.hold.ensures.fits

pub returns-clause-holds : goal.returns-clause-holds
returns-clause-holds g c =
    on_ok c.hold.result (λ behind t b f holds. holds_next g.T.Twin.seen g.T.Twin.may_leave c.args.self.now c.hold.new.self t f behind b holds) c.hold.ensures.behind

pub returns-clause-leaves : goal.returns-clause-leaves
returns-clause-leaves g c =
    λ t b f holds. leaves_either g.T.Twin.seen g.T.Twin.may_leave g.T.Twin.moment g.T.Twin.left_since (λ twin. g.met.T.Twin.counts_now twin) c.args.self.now c.hold.new.self t b f
    (c.hold.ensures.any_moment b holds)

pub returns-clause-started : goal.returns-clause-started
returns-clause-started g c =
    on_ok c.hold.result (λ taken t f. started_handled (id_of c.args.self.now) t c.args.event (taken t f)) c.hold.ensures.taken

pub returns-clause-written : goal.returns-clause-written
returns-clause-written g c =
    if_ok_weaker c.hold.result _ _ (λ done written t f. some_weaker _ _ done.journal (λ batch is. is.1) (written t f)) c.hold.ensures.written
