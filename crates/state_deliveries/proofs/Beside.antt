-- What the router's transfers, dispositions and flows make of the tables of deliveries.
use Rattle.std.proofs.Common.{◌≡◌, ◌∙◌, ◌∷◌, ℕ, Bool, true, false, refl, sym, ap, List, length, Option, None}
use Rattle.std.specs.Prelude.{◌==◌, ◌&&◌, if◌then◌else◌}
use Rattle.std.specs.Option.{option_and_then}
use Rattle.std.proofs.lemmas.Bool.{eqb-true}
use Rattle.amqp_model.specs.declared.perf.Disposition.{Disposition}
use Rattle.amqp_model.specs.declared.perf.Flow.{Flow}
use Rattle.amqp_model.specs.declared.perf.Transfer.{Transfer}
use Rattle.amqp_model.specs.declared.perf.Perf.TheVariants as perf
use Rattle.amqp_model.specs.declared.item.Item.{Item}
use Rattle.amqp_model.specs.declared.item.Item.TheVariants as item
use Rattle.router_trace.specs.declared.binding.DeliveryName.{DeliveryName}
use Rattle.router_trace.specs.Trace.{Entry, Trace, Out}
use Rattle.router_trace.specs.Deliveries.{Delivery, delivery, number_named, carried, tag_in, sending, sending_by, named, named_by, after_id, next_id, next_id_by, after_frame, unless_over, is_number}
use Rattle.state_collections.specs.NumberMap.{at_number}
use Rattle.state_collections.specs.Ids.{at_id}
use Rattle.state_collections.specs.Places.{at}
use Rattle.state_deliveries.specs.declared.deliveries.Deliveries.{Deliveries}
use Rattle.state_deliveries.specs.declared.names.Names.{Names}
use Rattle.state_deliveries.specs.declared.next_ids.NextIds.{NextIds}
use Rattle.state_deliveries.specs.declared.sending.Sending.{Sending}
use Rattle.state_deliveries.specs.declared.store.Store.{Store}
use Rattle.state_deliveries.specs.Calling.{Knows}
use Rattle.state_deliveries.specs.Fits.{DeliveriesFit, Indexed, NextIdsFit, SendingFit, StoreFit, next_in}
use Rattle.state_deliveries.specs.Naming.{NamesFit}
use Rattle.state_deliveries.proofs.Known.{known_quiet, same_number, still_known}
use Rattle.state_deliveries.proofs.Low.{low_named, low_number, low_sending}
use Rattle.state_deliveries.proofs.Named.{quiet_row, same_row, still}
use Rattle.state_deliveries.proofs.Puts.{kept, one_frame, other_frame}

-- the tables beside the store, after an item that doesn't concern them
pub sending_stays : (s : Sending) (d : ℕ) (i : Item) (t : Trace) → ((o h : ℕ) (v : Option ℕ) → sending_by (number_named t) i o h v ≡ v) → SendingFit s t → SendingFit s (Out d i ∷ t)
sending_stays s d i t same fit = record {
  numbers = λ c o h. known_quiet (delivery (Out d i ∷ t)) (d == c) (at s.numbers c o h) (sending_by (number_named t) i o h (sending t c o h)) (sending t c o h) (same o h (sending t c o h))
      (still_known (Out d i) t (at s.numbers c o h) (sending t c o h) (low_sending t c o h) (fit.numbers c o h));
}

pub names_stay : (s : Names) (d : ℕ) (i : Item) (t : Trace) → ((o id : ℕ) (v : Option ℕ) → named_by (number_named t) i o id v ≡ v) → NamesFit s t → NamesFit s (Out d i ∷ t)
names_stay s d i t same fit = record {
  names = λ c o id. same_row (Out d i ∷ t) (at_id s.ids c o id) (at_id s.ids c o id) (named t c o id) (named (Out d i ∷ t) c o id) refl
      (quiet_row (d == c) (named_by (number_named t) i o id (named t c o id)) (named t c o id) (same o id (named t c o id)))
      (still (Out d i) t (at_id s.ids c o id) (named t c o id) (low_named t c o id) (fit.names c o id));
  small = fit.small;
}

either_way : {A : Type 0} (b : Bool) (v w : A) → w ≡ v → v ≡ (if b then w else v)
either_way true v w e = sym e
either_way false v w e = refl

pub next_ids_stay : (s : NextIds) (d : ℕ) (i : Item) (t : Trace) → ((o next : ℕ) → next_id_by i o next ≡ next) → NextIdsFit s t → NextIdsFit s (Out d i ∷ t)
next_ids_stay s d i t same fit = record { ids = λ c o. fit.ids c o ∙ either_way (d == c) (next_id t c o) (next_id_by i o (next_id t c o)) (same o (next_id t c o)) }

-- the store after a transfer, and after another performative
pub store_transferred : (s u : Store) (c own : ℕ) (sasl : Bool) (x : Transfer) (payload : List ℕ) (t : Trace) (number : Option ℕ)
    → ((n : ℕ) → at_number u.deliveries n ≡ (if is_number number n then option_and_then (λ d. unless_over (after_frame x (length payload) d)) (at_number s.deliveries n) else at_number s.deliveries n))
    → (Indexed s → Indexed u) → Knows (delivery t) number (carried (number_named t) (tag_in x) (sending t c own x.handle)) → StoreFit s t
    → StoreFit u (Out c (item.Frame sasl own (perf.Transfer x) payload) ∷ t)
store_transferred s u c own sasl x payload t number notes indexed knows fit = record {
  deliveries = λ n.
      notes n
      ∙ ap (λ (v : Option Delivery). if is_number number n then option_and_then (λ d. unless_over (after_frame x (length payload) d)) v else v) (fit.deliveries n)
      ∙ one_frame (number_named t) c own n sasl x payload (sending t c) number (delivery t n)
      (λ d there. same_number (delivery t) number (carried (number_named t) (tag_in x) (sending t c own x.handle)) n d knows there) (kept t n);
  indexed = indexed fit.indexed;
}

not_transfer : (f : Flow) (x : Transfer) → perf.Flow f ≡ perf.Transfer x → ⊥
not_transfer f x e = absurd cc

pub deliveries_flowed : (s : Deliveries) (d own : ℕ) (sasl : Bool) (f : Flow) (payload : List ℕ) (t : Trace) → DeliveriesFit s t
    → DeliveriesFit s (Out d (item.Frame sasl own (perf.Flow f) payload) ∷ t)
deliveries_flowed s d own sasl f payload t fit =
    let i = item.Frame sasl own (perf.Flow f) payload in
    record {
      bindings = fit.bindings;
      counters = fit.counters;
      last_row = fit.last_row;
      store = record {
        deliveries = λ n. fit.store.deliveries n ∙ other_frame (number_named t) d own n sasl (perf.Flow f) payload (sending t d) (not_transfer f) (delivery t n) (kept t n);
        indexed = fit.store.indexed;
      };
      sending = sending_stays s.sending d i t (λ o h v. refl) fit.sending;
      names = names_stay s.names d i t (λ o id v. refl) fit.names;
      next_ids = next_ids_stay s.next_ids d i t (λ o next. refl) fit.next_ids;
    }

pub disposition_is_none : (x : Disposition) (y : Transfer) → perf.Disposition x ≡ perf.Transfer y → ⊥
disposition_is_none x y e = absurd cc

-- the next ids after a transfer
counted_row : (here own : Bool) (now old view : ℕ) (after : ℕ → ℕ) → now ≡ (if here then (if own then after old else old) else old) → old ≡ view → now ≡ (if here then (if own then after view else view) else view)
counted_row here own now old view after is same = is ∙ ap (λ k. if here then (if own then after k else k) else k) same

pub next_ids_counted : (s u : NextIds) (d own : ℕ) (sasl : Bool) (x : Transfer) (payload : List ℕ) (t : Trace)
    → ((c o : ℕ) → next_in u c o ≡ (if d == c then (if own == o then after_id x.delivery_id (next_in s c o) else next_in s c o) else next_in s c o))
    → NextIdsFit s t → NextIdsFit u (Out d (item.Frame sasl own (perf.Transfer x) payload) ∷ t)
next_ids_counted s u d own sasl x payload t counts fit = record { ids = λ c o. counted_row (d == c) (own == o) _ (next_in s c o) (next_id t c o) (after_id x.delivery_id) (counts c o) (fit.ids c o) }

-- a number that a table knows stays known after a transfer: by its name, and on its handle
pub name_known : (e : Entry) (t : Trace) (names : DeliveryName → Option ℕ) → ((name : DeliveryName) → Knows (delivery t) (names name) (number_named t name))
    → (name : DeliveryName) → Knows (delivery (e ∷ t)) (names name) (number_named t name)
name_known e t names knows name = still_known e t (names name) (number_named t name) (low_number t name) (knows name)

-- on a handle after a transfer
pub known_number : (known : ℕ → Option Delivery) (number next : Option ℕ) (here own on more : Bool) (new old view : Option ℕ)
    → new ≡ (if here then (if own then (if on then (if more then number else None) else old) else old) else old)
    → (here ≡ true → own ≡ true → on ≡ true → Knows known number next) → Knows known old view
    → Knows known new (if here then (if own && on then (if more then next else None) else view) else view)
known_number known number next true true true true new old view e hit x = rw e (hit refl refl refl)
known_number known number next true true true false new old view e hit x = rw e tt
known_number known number next true true false more new old view e hit x = rw e x
known_number known number next true false on more new old view e hit x = rw e x
known_number known number next false own on more new old view e hit x = rw e x

pub same_handle : (f : ℕ → ℕ → ℕ → Option ℕ) (c o h d p k : ℕ) → (c == d) ≡ true → (o == p) ≡ true → (h == k) ≡ true → f c o h ≡ f d p k
same_handle f c o h d p k a b e = λ i. f (eqb-true c d a i) (eqb-true o p b i) (eqb-true h k e i)
