-- The tables after a message was bound, and after a row was joined to a producer's link.
use Rattle.std.proofs.Common.{◌≡◌, ◌∙◌, ◌<◌, ◌+◌, ℕ, Bool, true, false, refl, sym, ap, subst, arith, ◌∷◌, Option, Some, None}
use Rattle.std.specs.Prelude.{◌==◌, if◌then◌else◌, is_none, is_some}
use Rattle.std.specs.Option.{option_and_then}
use Rattle.state_collections.specs.NumberMap.{at_number}
use Rattle.amqp_model.specs.declared.state.DeliveryState.{DeliveryState}
use Rattle.book_model.specs.declared.row.RowNumber.{RowNumber}
use Rattle.router_trace.specs.declared.binding.Binding.{Binding}
use Rattle.router_trace.specs.declared.binding.BindingKind.TheVariants as kind
use Rattle.router_trace.specs.declared.binding.DeliveryName.{DeliveryName}
use Rattle.router_trace.specs.declared.binding.DeliveryName.TheVariants.{Row}
use Rattle.router_trace.specs.declared.binding.JoinedTo.{JoinedTo}
use Rattle.router_trace.specs.declared.binding.JoinedTo.TheVariants.{New}
use Rattle.router_trace.specs.declared.binding.Holding.{Holding}
use Rattle.router_trace.specs.declared.binding.Rank.{Rank}
use Rattle.router_trace.specs.Trace.{Trace, Bound}
use Rattle.router_trace.specs.Deliveries.{Delivery, bindings, bound, called, joined, joined_by, joined_to, joining, holds_standing, name_in, unless_called, with_binding, delivery, sending, named, rank_in}
use Rattle.state_deliveries.specs.declared.deliveries.Deliveries.{Deliveries}
use Rattle.state_deliveries.specs.declared.names.Names.{Names}
use Rattle.state_deliveries.specs.declared.sending.Sending.{Sending}
use Rattle.state_deliveries.specs.declared.store.Store.{Store}
use Rattle.state_deliveries.specs.Calling.{at_name}
use Rattle.state_deliveries.specs.Fits.{DeliveriesFit, Indexed, StoreFit, SendingFit, NextIdsFit}
use Rattle.state_deliveries.specs.Naming.{NamesFit}
use Rattle.state_collections.specs.Places.{at}
use Rattle.state_collections.specs.Ids.{at_id}
use Rattle.state_deliveries.proofs.Called.{called_fits}
use Rattle.state_deliveries.proofs.Joined.{none_has, to_new, to_standing, unjoined}
use Rattle.state_deliveries.proofs.Known.{still_known}
use Rattle.state_deliveries.proofs.Low.{low_sending, low_named}
use Rattle.state_deliveries.proofs.Named.{still}
use Rattle.state_deliveries.proofs.Numbers.{none_beyond}

-- a binding that isn't joined to a delivery in its place
pub joins_none : (j : Option Holding) → is_none j ≡ true → j ≡ None
joins_none None e = refl
joins_none (Some q) e = absurd cc

pub store_bound : (s u : Store) (b : Binding) (t : Trace) (number : ℕ) (name : DeliveryName) (rank : Rank) → is_none (holds_standing b.kind) ≡ true → number ≡ bindings t + 1 → name ≡ name_in t b
    → rank ≡ rank_in t b
    → StoreFit s t
    → (Indexed s → (n : ℕ) → at_number u.deliveries n ≡ (if number == n then Some (bound name rank b) else unless_called name (at_number s.deliveries n)))
    → (at_number s.deliveries number ≡ None → Indexed s → Indexed u) → StoreFit u (Bound b ∷ t)
store_bound s u b t number name rank new is_number is_name is_rank fit deliveries indexed = record {
  deliveries = λ n.
      deliveries fit.indexed n
      ∙ ap (λ (v : Option Delivery). if number == n then Some (bound name rank b) else unless_called name v) (fit.deliveries n)
      ∙ ap (λ k. if k == n then Some (bound name rank b) else unless_called name (delivery t n)) is_number
      ∙ ap (λ x. if bindings t + 1 == n then Some (bound x rank b) else unless_called x (delivery t n)) is_name
      ∙ ap (λ r. if bindings t + 1 == n then Some (bound (name_in t b) r b) else unless_called (name_in t b) (delivery t n)) is_rank
      ∙ sym (ap (λ (j : Option Holding). with_binding j (name_in t b) (rank_in t b) b (bindings t + 1 == n) (delivery t n)) (joins_none (holds_standing b.kind) new));
  indexed = indexed (fit.deliveries number ∙ none_beyond t number (above (bindings t) number is_number)) fit.indexed;
}
  where
    above : (k n : ℕ) → n ≡ k + 1 → k < n
    above k n is = omega (arith, is)

pub store_joined : (s u : Store) (b : Binding) (t : Trace) (q : Holding) (name : DeliveryName) → holds_standing b.kind ≡ Some q → name ≡ name_in t b → StoreFit s t
    → (Indexed s → (n : ℕ) → at_number u.deliveries n ≡ joined name q (at_number s.deliveries n))
    → (Indexed s → Indexed u) → StoreFit u (Bound b ∷ t)
store_joined s u b t q name is is_name fit deliveries indexed = record {
  deliveries = λ n.
      deliveries fit.indexed n
      ∙ ap (joined name q) (fit.deliveries n)
      ∙ ap (λ x. joined x q (delivery t n)) is_name
      ∙ sym (ap (λ (j : Option Holding). with_binding j (name_in t b) (rank_in t b) b (bindings t + 1 == n) (delivery t n)) is);
  indexed = indexed fit.indexed;
}

pub sending_bound : (s : Sending) (b : Binding) (t : Trace) → SendingFit s t → SendingFit s (Bound b ∷ t)
sending_bound s b t fit = record { numbers = λ c o h. still_known (Bound b) t (at s.numbers c o h) (sending t c o h) (low_sending t c o h) (fit.numbers c o h) }

pub names_bound : (s : Names) (b : Binding) (t : Trace) → NamesFit s t → NamesFit s (Bound b ∷ t)
names_bound s b t fit = record { names = λ c o id. still (Bound b) t (at_id s.ids c o id) (named t c o id) (low_named t c o id) (fit.names c o id); small = fit.small }

-- A row is joined to a producer's link: in the store, after it was asked whether a delivery has the row.
there_is : (s : Store) (t : Trace) (row : RowNumber) (found : Bool) → StoreFit s t → found ≡ is_some (option_and_then (at_number s.deliveries) (at_name s.by_name (Row row)))
    → is_some (called t (Row row)) ≡ found
there_is s t row found fit is = sym (is ∙ ap (λ (v : Option Delivery). is_some v) (called_fits s.by_name (at_number s.deliveries) t (Row row) fit.deliveries fit.indexed.called))

-- one has it
pub joined_fits : (s u : Deliveries) (t : Trace) (q : Holding) (row : RowNumber) (outcome : Option DeliveryState) → u.bindings ≡ s.bindings → u.counters ≡ s.counters → u.last_row ≡ s.last_row
    → u.sending ≡ s.sending → u.names ≡ s.names → u.next_ids ≡ s.next_ids
    → true ≡ is_some (option_and_then (at_number s.store.deliveries) (at_name s.store.by_name (Row row)))
    → (Indexed s.store → (n : ℕ) → at_number u.store.deliveries n ≡ joined (Row row) q (at_number s.store.deliveries n))
    → (Indexed s.store → Indexed u.store) → DeliveriesFit s t → DeliveriesFit u (Bound (joined_by t q row outcome) ∷ t)
joined_fits s u t q row outcome bindings_are counters_are row_is sending_is names_are ids_are found deliveries indexed fit = record {
  bindings = bindings_are ∙ fit.bindings ∙ sym (ap (λ (j : Option Holding). if is_none j then bindings t + 1 else bindings t) is);
  counters = counters_are ∙ fit.counters;
  last_row = row_is ∙ fit.last_row;
  store = store_joined s.store u.store (joined_by t q row outcome) t q (Row row) is refl fit.store deliveries indexed;
  sending = subst (λ x. SendingFit x (Bound (joined_by t q row outcome) ∷ t)) (sym sending_is) (sending_bound s.sending (joined_by t q row outcome) t fit.sending);
  names = subst (λ x. NamesFit x (Bound (joined_by t q row outcome) ∷ t)) (sym names_are) (names_bound s.names (joined_by t q row outcome) t fit.names);
  next_ids = subst (λ x. NextIdsFit x (Bound (joined_by t q row outcome) ∷ t)) (sym ids_are) (record { ids = λ c o. fit.next_ids.ids c o });
}
  where
    is : holds_standing (kind.Joined q (joined_to (called t (Row row)) outcome)) ≡ Some q
    is = to_standing (called t (Row row)) q outcome (there_is s.store t row true fit.store found)

-- none has it, so nothing has changed yet
pub unjoined_fits : (s u : Deliveries) (t : Trace) (q : Holding) (row : RowNumber) → u.bindings ≡ s.bindings → u.counters ≡ s.counters → u.last_row ≡ s.last_row
    → u.sending ≡ s.sending → u.names ≡ s.names → u.next_ids ≡ s.next_ids
    → false ≡ is_some (option_and_then (at_number s.store.deliveries) (at_name s.store.by_name (Row row)))
    → (Indexed s.store → (n : ℕ) → at_number u.store.deliveries n ≡ joined (Row row) q (at_number s.store.deliveries n))
    → (Indexed s.store → Indexed u.store) → DeliveriesFit s t → DeliveriesFit u t
unjoined_fits s u t q row bindings_are counters_are row_is sending_is names_are ids_are found deliveries indexed fit = record {
  bindings = bindings_are ∙ fit.bindings;
  counters = counters_are ∙ fit.counters;
  last_row = row_is ∙ fit.last_row;
  store = record {
    deliveries = λ n. deliveries fit.store.indexed n
        ∙ unjoined (Row row) q (at_number s.store.deliveries n)
        (none_has s.store.by_name (at_number s.store.deliveries) (Row row) fit.store.indexed.called (sym found) n)
        ∙ fit.store.deliveries n;
    indexed = indexed fit.store.indexed;
  };
  sending = subst (λ x. SendingFit x t) (sym sending_is) fit.sending;
  names = subst (λ x. NamesFit x t) (sym names_are) fit.names;
  next_ids = subst (λ x. NextIdsFit x t) (sym ids_are) fit.next_ids;
}

-- ... and a new one is bound
pub newly_joined : (s u : Deliveries) (t : Trace) (q : Holding) (row : RowNumber) (outcome copy : Option DeliveryState) (b : Binding) → b ≡ joining q row (New copy) → copy ≡ outcome
    → false ≡ is_some (option_and_then (at_number s.store.deliveries) (at_name s.store.by_name (Row row))) → DeliveriesFit s t
    → DeliveriesFit u (Bound b ∷ t) → DeliveriesFit u (Bound (joined_by t q row outcome) ∷ t)
newly_joined s u t q row outcome copy b is copied found fit new = subst (λ x. DeliveriesFit u (Bound x ∷ t)) whole new
  where
    whole : b ≡ joined_by t q row outcome
    whole = is ∙ ap (λ (o : Option DeliveryState). joining q row (New o)) copied
        ∙ ap (λ (to : JoinedTo). joining q row to) (sym (to_new (called t (Row row)) outcome (there_is s.store t row false fit.store found)))
