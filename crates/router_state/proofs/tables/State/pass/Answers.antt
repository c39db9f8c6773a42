use Rattle.state_messages.specs.Messages.{binding_for}
use Rattle.router_state.proofs.Bound.{bound_fits}
use Rattle.router_state.proofs.tables.State.pass.Goals as goal

pub returns-clause-bound : goal.returns-clause-bound
returns-clause-bound c = λ t known fit.
    bound_fits c.args.self.now _ t (binding_for t c.args.from c.args.origin c.args.row c.args.format c.args.payload) fit (c.in_ok-chosen.ensures.fits t known fit.messages)
