use Rattle.std.proofs.Common.{refl, sym}
use Rattle.std.specs.Option.{option_copied}
use Rattle.router_trace.specs.Deliveries.{joined_by}
use Rattle.state_messages.proofs.Known.{again_fits}
use Rattle.state_messages.proofs.messages.Messages.join.Goals as goal

pub returns : goal.returns
returns c = λ t old.
    let bound = joined_by t c.args.holding c.args.row (option_copied c.args.outcome) in
    again_fits c.args.self.now _ bound t refl refl refl
    (c.in_ok-bind.ensures t bound (sym c.resumed.ensures) old.incoming) (c.in_ok-join.ensures.fits t old.deliveries) c.in_ok-join.ensures.touches old
