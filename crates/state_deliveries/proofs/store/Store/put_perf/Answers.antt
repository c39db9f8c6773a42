use Rattle.std.proofs.Common.{◌∙◌, ◌∷◌, sym, subst, ap}
use Rattle.amqp_model.specs.declared.perf.Perf.{Perf}
use Rattle.amqp_model.specs.declared.item.Item.TheVariants as item
use Rattle.router_trace.specs.Trace.{Out}
use Rattle.router_trace.specs.Deliveries.{delivery, number_named, sending}
use Rattle.state_deliveries.specs.Calling.{Knows}
use Rattle.state_deliveries.proofs.Beside.{store_transferred}
use Rattle.state_deliveries.specs.Fits.{StoreFit, carried_in}
use Rattle.state_deliveries.specs.Indexing.{are_by_place}
use Rattle.state_deliveries.specs.Stepping.{after_any, IsKept}
use Rattle.state_deliveries.proofs.Puts.{on_ok_both, other_frame, put_by_place, kept}
use Rattle.state_deliveries.proofs.store.Store.put_perf.Goals as goal

pub returns-in-Transfer-clause-fits : goal.returns-in-Transfer-clause-fits
returns-in-Transfer-clause-fits c = on_ok_both c.note_carried.result
    (λ noted indexed t sasl number fit.
    let conn = c.args.conn in
    let own = c.args.own in
    let bytes = c.args.payload.now in
    subst (λ (p : Perf). StoreFit c.note_carried.new.self (Out conn (item.Frame sasl own p bytes) ∷ t)) (sym c.in-Transfer.is)
    (store_transferred c.args.self.now c.note_carried.new.self conn own sasl c.in-Transfer.transfer bytes t c.args.number noted indexed
    (subst (λ (p : Perf). Knows (delivery t) c.args.number (carried_in (number_named t) p (sending t conn own))) c.in-Transfer.is number) fit))
    c.note_carried.ensures.deliveries c.note_carried.ensures.indexed

pub returns-in_default-clause-fits : goal.returns-in_default-clause-fits
returns-in_default-clause-fits c = on_ok_both c.apply_any.result
    (λ applied indexed t sasl number fit.
    let body = c.args.perf.now in
    record {
      deliveries = λ n.
          applied (ap are_by_place c.after_put.ensures ∙ put_by_place c.args.conn c.args.own body) (λ m. subst IsKept (sym (fit.deliveries m)) (kept t m)) fit.indexed n
          ∙ ap (after_any c.after_put.result) (fit.deliveries n)
          ∙ ap (λ x. after_any x (delivery t n)) c.after_put.ensures
          ∙ other_frame (number_named t) c.args.conn c.args.own n sasl body c.args.payload.now (sending t c.args.conn) c.in_default.not-Transfer (delivery t n) (kept t n);
      indexed = indexed fit.indexed;
    })
    c.apply_any.ensures.deliveries c.apply_any.ensures.indexed
