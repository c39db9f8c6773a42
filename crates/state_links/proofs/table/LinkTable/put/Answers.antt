use Rattle.std.proofs.Common.{◌≡◌, ◌∙◌, ◌∷◌, ap, subst, sym}
use Rattle.amqp_model.specs.declared.perf.Perf.{Perf}
use Rattle.amqp_model.specs.declared.perf.Perf.TheVariants as perf
use Rattle.amqp_model.specs.declared.item.Item.TheVariants as item
use Rattle.router_trace.specs.Trace.{Out}
use Rattle.state_links.specs.Fits.{TableFit, key_in, asked_in}
use Rattle.state_links.proofs.table.LinkTable.put.Goals as goal

pub returns-in_ok-put_attach-in-Attach-clause-fits : goal.returns-in_ok-put_attach-in-Attach-clause-fits
returns-in_ok-put_attach-in-Attach-clause-fits c = λ t sasl key last fit.
    let is : c.args.perf.now ≡ perf.Attach c.as_ref.result.now = c.in-Attach.is ∙ ap (λ a. perf.Attach a) (sym c.as_ref.ensures) in
    subst (λ (p : Perf). TableFit c.put_attach.new.self (Out c.args.conn (item.Frame sasl c.args.own p c.args.payload.now) ∷ t)) (sym is)
    (c.in_ok-put_attach-in-Attach.ensures.fits t sasl c.args.payload.now (key ∙ ap (λ (p : Perf). key_in t c.args.conn p) is)
    (last ∙ ap (λ (p : Perf). asked_in t c.args.conn p) is) fit)

pub returns-in_ok-put_flow-in-Flow-clause-fits : goal.returns-in_ok-put_flow-in-Flow-clause-fits
returns-in_ok-put_flow-in-Flow-clause-fits c = λ t sasl key last fit.
    subst (λ (p : Perf). TableFit c.put_flow.new.self (Out c.args.conn (item.Frame sasl c.args.own p c.args.payload.now) ∷ t)) (sym c.in-Flow.is)
    (c.in_ok-put_flow-in-Flow.ensures.fits t sasl c.args.payload.now fit)

pub returns-in_ok-put_transfer-in-Transfer-clause-fits : goal.returns-in_ok-put_transfer-in-Transfer-clause-fits
returns-in_ok-put_transfer-in-Transfer-clause-fits c = λ t sasl key last fit.
    subst (λ (p : Perf). TableFit c.put_transfer.new.self (Out c.args.conn (item.Frame sasl c.args.own p c.args.payload.now) ∷ t)) (sym c.in-Transfer.is)
    (c.in_ok-put_transfer-in-Transfer.ensures.fits t sasl c.args.payload.now fit)

pub returns-in_ok-put_detach-in-Detach-clause-fits : goal.returns-in_ok-put_detach-in-Detach-clause-fits
returns-in_ok-put_detach-in-Detach-clause-fits c = λ t sasl key last fit.
    subst (λ (p : Perf). TableFit c.put_detach.new.self (Out c.args.conn (item.Frame sasl c.args.own p c.args.payload.now) ∷ t)) (sym c.in-Detach.is)
    (c.in_ok-put_detach-in-Detach.ensures.fits t sasl c.args.payload.now fit)

pub returns-in_ok-put_end-in-End-clause-fits : goal.returns-in_ok-put_end-in-End-clause-fits
returns-in_ok-put_end-in-End-clause-fits c = λ t sasl key last fit.
    subst (λ (p : Perf). TableFit c.put_end.new.self (Out c.args.conn (item.Frame sasl c.args.own p c.args.payload.now) ∷ t)) (sym c.in-End.is)
    (c.put_end.ensures.fits t sasl c.args.payload.now _ fit)
