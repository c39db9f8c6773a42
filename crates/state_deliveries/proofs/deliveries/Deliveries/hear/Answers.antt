use Rattle.std.proofs.Common.{◌≡◌, ◌∷◌, ◌∙◌, ℕ, false, ap, sym, subst}
use Rattle.router_trace.specs.Trace.{did}
use Rattle.router_trace.specs.Deliveries.{named, sending, delivery, giving}
use Rattle.router_trace.specs.declared.event.Event.TheVariants as event
use Rattle.state_collections.specs.NumberMap.{at_number}
use Rattle.state_deliveries.specs.Fits.{Indexed, StoreFit}
use Rattle.state_deliveries.specs.Giving.{after_acts}
use Rattle.state_deliveries.specs.Hearing.{heard_by}
use Rattle.state_deliveries.specs.Naming.{is_open}
use Rattle.state_collections.specs.Places.{at}
use Rattle.state_collections.specs.Ids.{at_id}
use Rattle.state_deliveries.specs.Stepping.{IsKept}
use Rattle.state_deliveries.proofs.Puts.{kept}
use Rattle.state_deliveries.proofs.Low.{low_named, low_sending}
use Rattle.state_deliveries.proofs.Known.{still_known}
use Rattle.state_deliveries.proofs.Named.{still}
use Rattle.state_deliveries.proofs.Closed.{acts_closed}
use Rattle.state_deliveries.proofs.Forgotten.{forgotten_row, small_left}
use Rattle.state_deliveries.proofs.Touching.{touches_then}
use Rattle.state_deliveries.proofs.Heard.{heard_follows, kept_heard}
use Rattle.state_deliveries.proofs.deliveries.Deliveries.hear.Goals as goal

pub returns-clause-fits : goal.returns-clause-fits
returns-clause-fits c = λ t channel made gives fit.
    let known = at_id c.args.self.now.names.ids in
    let hears = did (event.Item c.args.conn c.args.item.now) in
    let keeps : (n : ℕ) → IsKept (at_number c.args.self.now.store.deliveries n) = λ n. subst IsKept (sym (fit.store.deliveries n)) (kept t n) in
    let heard : (n : ℕ) → at_number c.hear.new.store.deliveries n ≡ heard_by c.args.change known n (at_number c.args.self.now.store.deliveries n) =
    c.in_ok-hear.ensures.deliveries keeps fit.store.indexed fit.names.small in
    let indexed : Indexed c.hear.new.store = c.in_ok-hear.ensures.indexed fit.store.indexed in
    let given : (n : ℕ) → at_number c.give.new.store.deliveries n ≡ after_acts (giving c.args.item.now c.args.acts.now) (at_number c.hear.new.store.deliveries n) =
    c.in_ok-give.ensures.deliveries (λ m. subst IsKept (sym (heard m)) (kept_heard c.args.change known m (at_number c.args.self.now.store.deliveries m) (keeps m))) indexed in
    let store : StoreFit c.give.new.store (hears ∷ t) = record {
      deliveries = λ n.
          given n
          ∙ ap (after_acts (giving c.args.item.now c.args.acts.now)) (heard n
          ∙ ap (heard_by c.args.change known n) (fit.store.deliveries n)
          ∙ ap (λ x. heard_by x known n (delivery t n)) made)
          ∙ heard_follows c.args.conn c.args.item.now t n c.args.own known c.args.acts.now gives channel (λ o id. fit.names.names c.args.conn.0 o id);
      indexed = c.in_ok-give.ensures.indexed indexed;
    } in
    let closes : (n : ℕ) → is_open (at_number c.hear.new.store.deliveries n) ≡ false → is_open (delivery (hears ∷ t) n) ≡ false = λ n e.
    ap is_open (sym (store.deliveries n) ∙ given n) ∙ acts_closed (giving c.args.item.now c.args.acts.now) (at_number c.hear.new.store.deliveries n) e in
    record {
      bindings = fit.bindings;
      counters = fit.counters;
      last_row = fit.last_row;
      store = store;
      sending = record { numbers = λ d o h. still_known hears t (at c.args.self.now.sending.numbers d o h) (sending t d o h) (low_sending t d o h) (fit.sending.numbers d o h) };
      next_ids = record { ids = λ d o. fit.next_ids.ids d o };
      names = c.in_ok-settle_at.ensures (hears ∷ t) store.deliveries (record {
        names = λ d o id. forgotten_row (hears ∷ t) (at_number c.hear.new.store.deliveries) closes (at_id c.hear.new.names.ids d o id) (known d o id) (named t d o id) (c.in_ok-hear.ensures.names d o id)
            (still hears t (known d o id) (named t d o id) (low_named t d o id) (fit.names.names d o id));
        small = λ d o id. small_left (at_number c.hear.new.store.deliveries) id (at_id c.hear.new.names.ids d o id) (known d o id) (c.in_ok-hear.ensures.names d o id) (fit.names.small d o id);
      });
    }

pub returns-clause-touches : goal.returns-clause-touches
returns-clause-touches c = touches_then c.args.self.now.store c.hear.new.store c.give.new.store c.in_ok-hear.ensures.touches c.in_ok-give.ensures.touches
