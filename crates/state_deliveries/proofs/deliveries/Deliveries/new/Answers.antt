use Rattle.std.proofs.Common.{refl}
use Rattle.state_deliveries.proofs.deliveries.Deliveries.new.Goals as goal

pub returns : goal.returns
returns c g below row = record {
  bindings = refl;
  counters = refl;
  last_row = row;
  store = record { deliveries = c.new.ensures.deliveries; indexed = c.new.ensures.indexed };
  sending = c.new-2.ensures g below;
  names = c.new-3.ensures g below;
  next_ids = c.new-4.ensures g below;
}
