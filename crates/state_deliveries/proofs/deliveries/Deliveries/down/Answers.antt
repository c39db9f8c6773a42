use Rattle.state_deliveries.proofs.deliveries.Deliveries.down.Goals as goal

pub returns-clause-fits : goal.returns-clause-fits
returns-clause-fits c = λ t fit. record {
  bindings = fit.bindings;
  counters = fit.counters;
  last_row = fit.last_row;
  store = c.in_ok-down.ensures.fits t fit.store;
  sending = c.down-2.ensures t fit.sending;
  names = c.down-3.ensures t fit.names;
  next_ids = c.down-4.ensures t fit.next_ids;
}
