use Rattle.std.proofs.Common.{refl}
use Rattle.journal_store.specs.Store.{twin_of}
use Rattle.router_trace.specs.Trace.{step_of}
use Rattle.router_core.specs.Handling.{id_of, store_of}
use Rattle.router_core.specs.Replies.{handled}
use Rattle.router_core.proofs.Moments.{still_journal}
use Rattle.router_core.proofs.router.Core.handle.Goals as goal

pub returns-in-Ok-carry_out-clause-fits : goal.returns-in-Ok-carry_out-clause-fits
returns-in-Ok-carry_out-clause-fits g c = λ t f.
    (handled (id_of c.args.self.now) t (step_of c.args.event), record { answers = refl }, c.in-Ok-carry_out.ensures.fits t f (c.in-Ok.ensures.taken t f))

pub returns-then-self-clause-journal_moment : goal.returns-then-self-clause-journal_moment
returns-then-self-clause-journal_moment g c = λ t f stands.
    still_journal g.T.Twin.seen g.T.Twin.may_leave g.T.Twin.moment g.T.Twin.left_since (λ twin. g.met.T.Twin.only_now twin) c.args.self.now (twin_of (store_of c.args.self.now)) t c.args.event f stands refl

pub returns-in_default-clause-journal_moment : goal.returns-in_default-clause-journal_moment
returns-in_default-clause-journal_moment g c = λ t f stands.
    still_journal g.T.Twin.seen g.T.Twin.may_leave g.T.Twin.moment g.T.Twin.left_since (λ twin. g.met.T.Twin.only_now twin) c.args.self.now (twin_of (store_of c.args.self.now)) t c.args.event f stands refl
