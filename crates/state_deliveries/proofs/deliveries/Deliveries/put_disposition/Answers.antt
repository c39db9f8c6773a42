use Rattle.std.proofs.Common.{◌∙◌, ap, refl, sym, subst}
use Rattle.amqp_model.specs.declared.item.Item.TheVariants as item
use Rattle.amqp_model.specs.declared.perf.Perf.TheVariants as perf
use Rattle.router_trace.specs.Deliveries.{delivery, number_named, sending}
use Rattle.state_deliveries.specs.Indexing.{are_by_place}
use Rattle.state_deliveries.specs.Stepping.{after_any, IsKept}
use Rattle.state_deliveries.proofs.Beside.{sending_stays, names_stay, next_ids_stay, disposition_is_none}
use Rattle.state_deliveries.proofs.Puts.{kept, other_frame, put_by_place}
use Rattle.state_deliveries.proofs.deliveries.Deliveries.put_disposition.Goals as goal

pub returns-clause-fits : goal.returns-clause-fits
returns-clause-fits c = λ t sasl bytes fit.
    let conn = c.args.conn in
    let own = c.args.own in
    let x = c.args.disposition.now in
    let i = item.Frame sasl own (perf.Disposition x) bytes in
    record {
      bindings = fit.bindings;
      counters = fit.counters;
      last_row = fit.last_row;
      store = record {
        deliveries = λ n.
            c.in_ok-apply_any.ensures.deliveries (ap are_by_place c.after_disposition.ensures ∙ put_by_place conn own (perf.Disposition x))
            (λ m. subst IsKept (sym (fit.store.deliveries m)) (kept t m)) fit.store.indexed n
            ∙ ap (after_any c.after_disposition.result) (fit.store.deliveries n)
            ∙ ap (λ y. after_any y (delivery t n)) c.after_disposition.ensures
            ∙ other_frame (number_named t) conn own n sasl (perf.Disposition x) bytes (sending t conn) (disposition_is_none x) (delivery t n) (kept t n);
        indexed = c.in_ok-apply_any.ensures.indexed fit.store.indexed;
      };
      sending = sending_stays c.args.self.now.sending conn i t (λ o h v. refl) fit.sending;
      names = names_stay c.args.self.now.names conn i t (λ o id v. refl) fit.names;
      next_ids = next_ids_stay c.args.self.now.next_ids conn i t (λ o next. refl) fit.next_ids;
    }
