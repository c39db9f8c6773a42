use Rattle.std.proofs.Common.{◌∙◌, ap}
use Rattle.state_messages.specs.Asking.{some_go_on}
use Rattle.state_messages.proofs.Going.{busy_is}
use Rattle.state_messages.proofs.messages.Messages.is_busy.Goals as goal

pub returns : goal.returns
returns c = λ t fit.
    c.some_go_on.ensures t fit
    ∙ ap (some_go_on t c.args.conn c.args.own) c.as_slice.ensures.value
    ∙ busy_is t c.args.conn c.args.own c.in_ok-numbers.numbers.items (c.in_ok-numbers.ensures t fit.deliveries)
