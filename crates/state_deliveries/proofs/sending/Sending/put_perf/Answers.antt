use Rattle.std.proofs.Common.{◌∷◌, ℕ, sym, subst, true, Option}
use Rattle.std.specs.Prelude.{◌==◌}
use Rattle.amqp_model.specs.declared.perf.Perf.{Perf}
use Rattle.amqp_model.specs.declared.perf.Perf.TheVariants as perf
use Rattle.amqp_model.specs.declared.item.Item.TheVariants as item
use Rattle.router_trace.specs.Trace.{Entry, Out}
use Rattle.router_trace.specs.Deliveries.{carried, delivery, number_named, sending, sending_in, tag_in}
use Rattle.state_deliveries.specs.Calling.{at_name, Knows, NumbersFit}
use Rattle.state_deliveries.specs.Fits.{SendingFit}
use Rattle.state_collections.specs.Places.{at}
use Rattle.state_deliveries.proofs.Beside.{known_number, same_handle}
use Rattle.state_deliveries.proofs.Known.{known_carried, known_ended, known_session, known_quiet, still_known, unsent_in}
use Rattle.state_deliveries.proofs.Low.{low_sending}
use Rattle.state_deliveries.proofs.sending.Sending.put_perf.Goals as goal

pub returns-in_ok-put_transfer-in-Transfer : goal.returns-in_ok-put_transfer-in-Transfer
returns-in_ok-put_transfer-in-Transfer c = λ t sasl payload names fit.
    let x = c.in-Transfer.transfer in
    let conn = c.args.conn in
    let own = c.args.own in
    let old = at c.args.self.now.numbers in
    let entry : Perf → Entry = λ p. Out conn (item.Frame sasl own p payload) in
    let puts = entry (perf.Transfer x) in
    let known : (d o h : ℕ) → Knows (delivery (puts ∷ t)) (old d o h) (sending t d o h) = λ d o h. still_known puts t (old d o h) (sending t d o h) (low_sending t d o h) (fit.numbers d o h) in
    subst (λ (p : Perf). NumbersFit c.args.names.now (entry p ∷ t) → SendingFit c.put_transfer.new.self (entry p ∷ t)) (sym c.in-Transfer.is)
    (λ there.
    let goes = subst (λ v. Knows (delivery (puts ∷ t)) v (carried (number_named t) (tag_in x) (sending t conn own x.handle))) (sym (c.carried-number.ensures (at_name c.args.names.now) c.begun.ensures))
    (known_carried (delivery (puts ∷ t)) (at_name c.args.names.now) (number_named t) there (tag_in x) (old conn own x.handle) (sending t conn own x.handle) (known conn own x.handle)) in
    record {
      numbers = λ d o h. known_number (delivery (puts ∷ t)) c.carried-number.result (carried (number_named t) (tag_in x) (sending t d o h)) (conn == d) (own == o) (x.handle == h) x.more _ (old d o h) (sending t d o h)
          (c.in_ok-put_transfer-in-Transfer.ensures d o h)
          (λ a b e. subst (λ (v : Option ℕ). Knows (delivery (puts ∷ t)) c.carried-number.result (carried (number_named t) (tag_in x) v)) (same_handle (sending t) conn own x.handle d o h a b e) goes)
          (known d o h);
    }) names

pub returns-in-Detach : goal.returns-in-Detach
returns-in-Detach c = λ t sasl payload names fit.
    let x = c.in-Detach.detach in
    let conn = c.args.conn in
    let own = c.args.own in
    let old = at c.args.self.now.numbers in
    let puts = Out conn (item.Frame sasl own (perf.Detach x) payload) in
    subst (λ (p : Perf). SendingFit (record { numbers = c.remove.new.self }) (Out conn (item.Frame sasl own p payload) ∷ t)) (sym c.in-Detach.is)
    (record {
      numbers = λ d o h. known_ended (delivery (puts ∷ t)) (conn == d) (own == o) (x.handle == h) _ (old d o h) (sending t d o h) (c.remove.ensures.gone d o h)
          (still_known puts t (old d o h) (sending t d o h) (low_sending t d o h) (fit.numbers d o h));
    })

pub returns-in-End : goal.returns-in-End
returns-in-End c = λ t sasl payload names fit.
    let conn = c.args.conn in
    let own = c.args.own in
    let old = at c.args.self.now.numbers in
    let puts = Out conn (item.Frame sasl own (perf.End c.in-End.field-0) payload) in
    subst (λ (p : Perf). SendingFit (record { numbers = c.end.new.self }) (Out conn (item.Frame sasl own p payload) ∷ t)) (sym c.in-End.is)
    (record {
      numbers = λ d o h. known_session (delivery (puts ∷ t)) (conn == d) (own == o) _ (old d o h) (sending t d o h) (c.end.ensures.gone d o h)
          (still_known puts t (old d o h) (sending t d o h) (low_sending t d o h) (fit.numbers d o h));
    })

pub returns-in-Close : goal.returns-in-Close
returns-in-Close c = λ t sasl payload names fit.
    let conn = c.args.conn in
    let own = c.args.own in
    let old = at c.args.self.now.numbers in
    let puts = Out conn (item.Frame sasl own (perf.Close c.in-Close.field-0) payload) in
    subst (λ (p : Perf). SendingFit (record { numbers = c.forget.new.self }) (Out conn (item.Frame sasl own p payload) ∷ t)) (sym c.in-Close.is)
    (record {
      numbers = λ d o h. known_ended (delivery (puts ∷ t)) (conn == d) true true _ (old d o h) (sending t d o h) (c.forget.ensures.gone d o h)
          (still_known puts t (old d o h) (sending t d o h) (low_sending t d o h) (fit.numbers d o h));
    })

pub returns-in_default : goal.returns-in_default
returns-in_default c = λ t sasl payload names fit.
    let body = c.args.perf.now in
    let own = c.args.own in
    let puts = Out c.args.conn (item.Frame sasl own body payload) in
    let old = at c.args.self.now.numbers in
    record {
      numbers = λ d o h. known_quiet (delivery (puts ∷ t)) (c.args.conn == d) (old d o h) (sending_in (number_named t) body own o h (sending t d o h)) (sending t d o h)
          (unsent_in (number_named t) body own o h (sending t d o h) c.in_default.not-Transfer c.in_default.not-Detach c.in_default.not-End c.in_default.not-Close)
          (still_known puts t (old d o h) (sending t d o h) (low_sending t d o h) (fit.numbers d o h));
    }
