use Rattle.std.proofs.Common.{◌≡◌, ◌∷◌, ℕ, sym, subst, Option}
use Rattle.std.specs.Prelude.{◌==◌}
use Rattle.std.specs.Option.{option_and_then}
use Rattle.amqp_model.specs.declared.item.Item.TheVariants as item
use Rattle.amqp_model.specs.declared.perf.Perf.TheVariants as perf
use Rattle.router_trace.specs.Trace.{Out}
use Rattle.router_trace.specs.Deliveries.{carried, delivery, is_id, named, number_named, number_tagged, sending, tag_in}
use Rattle.state_collections.specs.NumberMap.{at_number}
use Rattle.state_collections.specs.Ids.{at_id}
use Rattle.state_collections.specs.Places.{at}
use Rattle.state_deliveries.specs.Calling.{at_name, Knows}
use Rattle.state_deliveries.specs.Naming.{kept_name}
use Rattle.state_deliveries.proofs.Asked.{numbers_of}
use Rattle.state_deliveries.proofs.Beside.{known_number, name_known, same_handle, store_transferred, next_ids_counted}
use Rattle.state_deliveries.proofs.Known.{known_carried, known_tagged, still_known}
use Rattle.state_deliveries.proofs.Low.{low_named, low_sending}
use Rattle.state_deliveries.proofs.Named.{remembers_kept, set_row, still}
use Rattle.state_deliveries.proofs.deliveries.Deliveries.put_transfer.Goals as goal

pub returns-clause-fits : goal.returns-clause-fits
returns-clause-fits c = λ t sasl fit.
    let conn = c.args.conn in
    let own = c.args.own in
    let x = c.args.transfer.now in
    let bytes = c.args.payload.now in
    let puts = Out conn (item.Frame sasl own (perf.Transfer x) bytes) in
    let names = at_name c.args.self.now.store.by_name in
    let old = at c.args.self.now.sending.numbers in
    let ids = at_id c.args.self.now.names.ids in
    let knows = numbers_of c.args.self.now.store t fit.store in
    let number : c.carried-number.result ≡ carried names (tag_in x) (old conn own x.handle) = c.carried-number.ensures names c.begun-begun.ensures in
    let carries = subst (λ v. Knows (delivery t) v (carried (number_named t) (tag_in x) (sending t conn own x.handle))) (sym number)
    (known_carried (delivery t) names (number_named t) knows (tag_in x) (old conn own x.handle) (sending t conn own x.handle) (fit.sending.numbers conn own x.handle)) in
    let store = store_transferred c.args.self.now.store c.note_carried.new.self conn own sasl x bytes t c.carried-number.result c.in_ok-note_carried.ensures.deliveries c.in_ok-note_carried.ensures.indexed carries fit.store in
    let later = name_known puts t names knows in
    let there : (d o h : ℕ) → Knows (delivery (puts ∷ t)) (old d o h) (sending t d o h) = λ d o h. still_known puts t (old d o h) (sending t d o h) (low_sending t d o h) (fit.sending.numbers d o h) in
    let goes = subst (λ v. Knows (delivery (puts ∷ t)) v (carried (number_named t) (tag_in x) (sending t conn own x.handle))) (sym number)
    (known_carried (delivery (puts ∷ t)) names (number_named t) later (tag_in x) (old conn own x.handle) (sending t conn own x.handle) (there conn own x.handle)) in
    let begins = subst (λ v. Knows (delivery (puts ∷ t)) v (option_and_then (number_tagged (number_named t)) (tag_in x))) (sym c.begun-begun.ensures)
    (known_tagged (delivery (puts ∷ t)) names (number_named t) later (tag_in x)) in
    record {
      bindings = fit.bindings;
      counters = fit.counters;
      last_row = fit.last_row;
      store = store;
      sending = record {
        numbers = λ d o h. known_number (delivery (puts ∷ t)) c.carried-number.result (carried (number_named t) (tag_in x) (sending t d o h)) (conn == d) (own == o) (x.handle == h) x.more _ (old d o h) (sending t d o h)
            (c.in_ok-put_transfer.ensures d o h)
            (λ a b e. subst (λ (v : Option ℕ). Knows (delivery (puts ∷ t)) c.carried-number.result (carried (number_named t) (tag_in x) v)) (same_handle (sending t) conn own x.handle d o h a b e) goes)
            (there d o h);
      };
      names = record {
        names = λ d o id. set_row (puts ∷ t) (conn == d) (own == o) (is_id x.delivery_id id) _ (kept_name c.begun-begun.result (at_number c.note_carried.new.self.deliveries)) (ids d o id)
            (option_and_then (number_tagged (number_named t)) (tag_in x)) (named t d o id)
            (c.in_ok-begin.ensures.named d o id)
            (remembers_kept (puts ∷ t) c.begun-begun.result (option_and_then (number_tagged (number_named t)) (tag_in x)) (at_number c.note_carried.new.self.deliveries) store.deliveries begins)
            (still puts t (ids d o id) (named t d o id) (low_named t d o id) (fit.names.names d o id));
        small = c.in_ok-begin.ensures.small fit.names.small;
      };
      next_ids = next_ids_counted c.args.self.now.next_ids c.count.new.self conn own sasl x bytes t c.in_ok-count.ensures fit.next_ids;
    }
