use Rattle.std.proofs.Common.{Some}
use Rattle.state_messages.specs.Messages.{taken_up_by}
use Rattle.router_state.proofs.Bound.{bound_fits}
use Rattle.router_state.proofs.tables.State.take_up.Goals as goal

pub returns : goal.returns
returns c = λ t fit.
    bound_fits c.args.self.now _ t (Some (taken_up_by t c.args.row c.args.how c.args.format c.args.payload c.args.consumer)) fit (c.in_ok-take_up.ensures t fit.messages)
