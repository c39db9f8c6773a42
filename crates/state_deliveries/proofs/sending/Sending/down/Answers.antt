use Rattle.std.proofs.Common.{◌∷◌, true}
use Rattle.std.specs.Prelude.{◌==◌}
use Rattle.router_trace.specs.Trace.{did}
use Rattle.router_trace.specs.Deliveries.{delivery, sending}
use Rattle.router_trace.specs.declared.event.Event.TheVariants as event
use Rattle.state_collections.specs.Places.{at}
use Rattle.state_deliveries.proofs.Known.{known_ended, still_known}
use Rattle.state_deliveries.proofs.Low.{low_sending}
use Rattle.state_deliveries.proofs.sending.Sending.down.Goals as goal

pub returns : goal.returns
returns c = λ t fit.
    let lost = did (event.Down c.args.conn) in
    let old = at c.args.self.now.numbers in
    record {
      numbers = λ d o h. known_ended (delivery (lost ∷ t)) (c.args.conn.0 == d) true true _ (old d o h) (sending t d o h) (c.forget.ensures.gone d o h)
          (still_known lost t (old d o h) (sending t d o h) (low_sending t d o h) (fit.numbers d o h));
    }
