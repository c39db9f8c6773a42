use Rattle.std.proofs.Common.{Some}
use Rattle.state_messages.specs.Messages.{copy_to}
use Rattle.router_state.proofs.Bound.{bound_fits}
use Rattle.router_state.proofs.tables.State.pass_copy.Goals as goal

pub returns : goal.returns
returns c = λ t fit. bound_fits c.args.self.now _ t (Some (copy_to t c.args.format c.args.payload c.args.consumer)) fit (c.in_ok-pass_copy.ensures t fit.messages)
