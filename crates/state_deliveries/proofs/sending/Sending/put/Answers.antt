use Rattle.std.proofs.Common.{◌∷◌, sym, subst}
use Rattle.std.specs.Prelude.{◌==◌}
use Rattle.amqp_model.specs.declared.item.Item.{Item}
use Rattle.router_trace.specs.Trace.{Out}
use Rattle.router_trace.specs.Deliveries.{delivery, number_named, sending, sending_by}
use Rattle.state_deliveries.specs.Calling.{NumbersFit}
use Rattle.state_deliveries.specs.Fits.{SendingFit}
use Rattle.state_collections.specs.Places.{at}
use Rattle.state_deliveries.proofs.Known.{known_quiet, still_known, unsent_by}
use Rattle.state_deliveries.proofs.Low.{low_sending}
use Rattle.state_deliveries.proofs.sending.Sending.put.Goals as goal

pub returns-in_default : goal.returns-in_default
returns-in_default c = λ t names fit.
    let i = c.args.item.now in
    let puts = Out c.args.conn i in
    let old = at c.args.self.now.numbers in
    record {
      numbers = λ d o h. known_quiet (delivery (puts ∷ t)) (c.args.conn == d) (old d o h) (sending_by (number_named t) i o h (sending t d o h)) (sending t d o h)
          (unsent_by (number_named t) i o h (sending t d o h) c.in_default.not-Frame)
          (still_known puts t (old d o h) (sending t d o h) (low_sending t d o h) (fit.numbers d o h));
    }

pub returns-in_ok-put_perf-in-Frame : goal.returns-in_ok-put_perf-in-Frame
returns-in_ok-put_perf-in-Frame c = λ t names fit.
    subst (λ (i : Item). NumbersFit c.args.names.now (Out c.args.conn i ∷ t) → SendingFit c.put_perf.new.self (Out c.args.conn i ∷ t)) (sym c.in-Frame.is)
    (λ there. c.in_ok-put_perf-in-Frame.ensures t _ _ there fit) names
