use Rattle.std.proofs.Common.{Some}
use Rattle.std.specs.Option.{option_copied}
use Rattle.router_trace.specs.Deliveries.{joined_by}
use Rattle.router_state.proofs.Bound.{bound_fits}
use Rattle.router_state.proofs.tables.State.join.Goals as goal

pub returns : goal.returns
returns c = λ t fit.
    bound_fits c.args.self.now _ t (Some (joined_by t c.args.holding c.args.row (option_copied c.args.outcome))) fit (c.in_ok-join.ensures t fit.messages)
