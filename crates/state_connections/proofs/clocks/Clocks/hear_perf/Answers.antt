use Rattle.std.proofs.Common.{◌∙◌, ◌∷◌, ap, false, subst, sym}
use Rattle.amqp_model.specs.declared.perf.Perf.{Perf}
use Rattle.amqp_model.specs.declared.perf.Perf.TheVariants as perf
use Rattle.amqp_model.specs.declared.item.Item.TheVariants as item
use Rattle.router_trace.specs.Trace.{did}
use Rattle.state_connections.specs.Timing.{ClocksFit}
use Rattle.router_trace.specs.declared.event.Event.TheVariants as event
use Rattle.state_connections.proofs.clocks.Clocks.hear_perf.Goals as goal

pub returns-in_ok-hear_open-in-Open : goal.returns-in_ok-hear_open-in-Open
returns-in_ok-hear_open-in-Open c = λ t channel payload fit.
    subst (λ (p : Perf). ClocksFit c.hear_open.new.self (did (event.Item c.args.conn (item.Frame false channel p payload)) ∷ t)) (sym (c.in-Open.is ∙ ap (λ o. perf.Open o) (sym c.as_ref.ensures)))
    (c.in_ok-hear_open-in-Open.ensures t channel payload fit)
