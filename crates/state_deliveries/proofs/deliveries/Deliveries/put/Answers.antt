use Rattle.std.proofs.Common.{◌∷◌, sym, subst}
use Rattle.router_trace.specs.Trace.{Out}
use Rattle.router_trace.specs.Deliveries.{delivery, number_named, sending}
use Rattle.state_deliveries.specs.Calling.{at_name, Knows}
use Rattle.state_deliveries.specs.Fits.{carried_by}
use Rattle.state_collections.specs.Places.{at}
use Rattle.state_deliveries.proofs.Asked.{numbers_of}
use Rattle.state_deliveries.proofs.Known.{known_carried_by}
use Rattle.state_deliveries.proofs.deliveries.Deliveries.put.Goals as goal

pub returns-clause-fits : goal.returns-clause-fits
returns-clause-fits c = λ t fit.
    let conn = c.args.conn in
    let known = delivery t in
    let names = at_name c.args.self.now.store.by_name in
    let carries = known_carried_by known names (number_named t) (numbers_of c.args.self.now.store t fit.store) c.args.item.now (at c.args.self.now.sending.numbers conn) (sending t conn) (fit.sending.numbers conn) in
    let store = c.in_ok-put.ensures.fits t (subst (λ v. Knows known v (carried_by (number_named t) c.args.item.now (sending t conn))) (sym c.carried_by-number.ensures) carries) fit.store in
    record {
      bindings = fit.bindings;
      counters = fit.counters;
      last_row = fit.last_row;
      store = store;
      sending = c.in_ok-put-3.ensures t (numbers_of _ (Out conn c.args.item.now ∷ t) store) fit.sending;
      names = c.in_ok-settle_put.ensures (Out conn c.args.item.now ∷ t) store.deliveries (c.in_ok-put-2.ensures t store fit.names);
      next_ids = c.in_ok-put-4.ensures t fit.next_ids;
    }
