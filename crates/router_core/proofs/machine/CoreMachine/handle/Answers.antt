use Rattle.router_core.specs.Handling.{id_of}
use Rattle.router_core.proofs.Books.{started_handled}
use Rattle.router_core.proofs.Committing.{some_weaker}
use Rattle.router_core.proofs.Machines.{batches_next, fits_next, if_ok_weaker, journal_next, keeps_next, leaves_next, on_ok, on_ok_both}
use Rattle.router_core.proofs.machine.CoreMachine.handle.Goals as goal

pub returns-clause-fits : goal.returns-clause-fits
returns-clause-fits g c =
    on_ok c.handle.result (λ more t f. fits_next c.handle.new.self (id_of c.args.self.now) t c.args.event (more t f)) c.handle.ensures.fits

pub returns-clause-batches : goal.returns-clause-batches
returns-clause-batches g c =
    on_ok c.handle.result (λ more t f. batches_next c.args.self.now c.handle.new.self (id_of c.args.self.now) t c.args.event f (fits_next c.handle.new.self (id_of c.args.self.now) t c.args.event (more t f))) c.handle.ensures.fits

pub returns-clause-keeps : goal.returns-clause-keeps
returns-clause-keeps g c =
    on_ok_both c.handle.result
    (λ more stands t f keeps. keeps_next g.T.Twin.seen g.T.Twin.may_leave c.args.self.now c.handle.new.self (id_of c.args.self.now) t c.args.event (fits_next c.handle.new.self (id_of c.args.self.now) t c.args.event (more t f)) stands keeps)
    c.handle.ensures.fits c.handle.ensures.stands

pub returns-clause-leaves : goal.returns-clause-leaves
returns-clause-leaves g c =
    λ t f keeps. leaves_next g.T.Twin.seen g.T.Twin.may_leave g.T.Twin.moment g.T.Twin.left_since (λ twin. g.met.T.Twin.counts_now twin) g.T.Twin.failures c.args.self.now c.handle.new.self t c.args.event
    (c.handle.ensures.any_moment t f keeps.0)

pub returns-clause-started : goal.returns-clause-started
returns-clause-started g c =
    on_ok c.handle.result (λ taken t f. started_handled (id_of c.args.self.now) t c.args.event (taken t f)) c.handle.ensures.taken

pub returns-clause-written : goal.returns-clause-written
returns-clause-written g c =
    if_ok_weaker c.handle.result _ _ (λ done written t f. some_weaker _ _ done.journal (λ batch is. is.1) (written t f)) c.handle.ensures.written

pub returns-clause-journal : goal.returns-clause-journal
returns-clause-journal g c =
    λ t f keeps. journal_next g.T.Twin.seen g.T.Twin.may_leave g.T.Twin.moment g.T.Twin.left_since (λ twin. g.met.T.Twin.counts_now twin) g.T.Twin.failures c.args.self.now c.handle.new.self t c.args.event
    (c.handle.ensures.journal_moment t f keeps.0)
