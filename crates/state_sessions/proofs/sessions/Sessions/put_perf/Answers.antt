use Rattle.std.proofs.Common.{◌∙◌, ◌∷◌, ap, subst, sym}
use Rattle.amqp_model.specs.declared.perf.Perf.{Perf}
use Rattle.amqp_model.specs.declared.perf.Perf.TheVariants as perf
use Rattle.amqp_model.specs.declared.item.Item.TheVariants as item
use Rattle.router_trace.specs.Trace.{Out}
use Rattle.state_sessions.specs.Fits.{SessionsFit}
use Rattle.state_sessions.proofs.sessions.Sessions.put_perf.Goals as goal

pub returns-in_ok-put_begin-in-Begin : goal.returns-in_ok-put_begin-in-Begin
returns-in_ok-put_begin-in-Begin c = λ t sasl payload fit.
    subst (λ (p : Perf). SessionsFit c.put_begin.new.self (Out c.args.conn (item.Frame sasl c.args.own p payload) ∷ t)) (sym (c.in-Begin.is ∙ ap (λ b. perf.Begin b) (sym c.as_ref.ensures)))
    (c.in_ok-put_begin-in-Begin.ensures t sasl payload fit)

pub returns-in_ok-put_flow-in-Flow : goal.returns-in_ok-put_flow-in-Flow
returns-in_ok-put_flow-in-Flow c = λ t sasl payload fit.
    subst (λ (p : Perf). SessionsFit c.put_flow.new.self (Out c.args.conn (item.Frame sasl c.args.own p payload) ∷ t)) (sym c.in-Flow.is)
    (c.in_ok-put_flow-in-Flow.ensures t sasl payload fit)

pub returns-in-Transfer : goal.returns-in-Transfer
returns-in-Transfer c = λ t sasl payload fit.
    subst (λ (p : Perf). SessionsFit c.put_transfer.new.self (Out c.args.conn (item.Frame sasl c.args.own p payload) ∷ t)) (sym c.in-Transfer.is)
    (c.put_transfer.ensures t sasl payload c.in-Transfer.field-0 fit)
