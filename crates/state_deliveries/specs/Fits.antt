-- When the table of deliveries agrees with a trace.
use Rattle.std.specs.Prelude.{◌≡◌, ℕ, List, Option, None, unwrap_or}
use Rattle.state_collections.specs.NumberMap.{at_number}
use Rattle.amqp_model.specs.declared.perf.Perf.{Perf}
use Rattle.amqp_model.specs.declared.perf.Perf.TheVariants as perf
use Rattle.amqp_model.specs.declared.item.Item.{Item}
use Rattle.amqp_model.specs.declared.item.Item.TheVariants as item
use Rattle.router_trace.specs.Trace.{Trace}
use Rattle.router_trace.specs.declared.binding.DeliveryName.{DeliveryName}
use Rattle.router_trace.specs.Deliveries.{bindings, counters, last_row, delivery, sending, next_id, carried, tag_in}
use Rattle.state_deliveries.specs.declared.deliveries.Deliveries.{Deliveries}
use Rattle.state_deliveries.specs.declared.next_ids.NextIds.{NextIds}
use Rattle.state_deliveries.specs.declared.sending.Sending.{Sending}
use Rattle.state_deliveries.specs.declared.store.Store.{Store}
use Rattle.state_deliveries.specs.Calling.{AreCalled, Knows}
use Rattle.state_deliveries.specs.Finding.{IsListed}
use Rattle.state_deliveries.specs.Indexing.{Indexes, standing}
use Rattle.state_deliveries.specs.Naming.{NamesFit}
use Rattle.state_collections.specs.Places.{at, in_map}

-- the deliveries are in the indexes, and under their names
pub record Indexed (s : Store) : Type 0 where
  pub indexes : Indexes s.index (λ n. standing (at_number s.deliveries n))
  pub called : AreCalled s.by_name (at_number s.deliveries)

-- the deliveries agree with the trace
pub record StoreFit (s : Store) (t : Trace) : Type 0 where
  pub deliveries : (n : ℕ) → at_number s.deliveries n ≡ delivery t n
  pub indexed : Indexed s

-- so do those of which more frames remain to be sent
pub record SendingFit (s : Sending) (t : Trace) : Type 0 where
  pub numbers : (c o h : ℕ) → Knows (delivery t) (at s.numbers c o h) (sending t c o h)

-- numbers of deliveries of which more frames remain to be sent on a session, in order of the handles: all but those that are gone
pub record AreSending (t : Trace) (c o : ℕ) (numbers : List ℕ) : Type 0 where
  pub known : ℕ → Option ℕ
  pub knows : (h : ℕ) → Knows (delivery t) (known h) (sending t c o h)
  pub listed : IsListed known numbers

-- and the next ids
abbrev pub next_in : NextIds → ℕ → ℕ → ℕ
next_in s c o = unwrap_or (in_map (at_number s.rows c) o) 0

pub record NextIdsFit (s : NextIds) (t : Trace) : Type 0 where
  pub ids : (c o : ℕ) → next_in s c o ≡ next_id t c o

-- the table agrees with the trace
pub record DeliveriesFit (s : Deliveries) (t : Trace) : Type 0 where
  pub bindings : s.bindings ≡ bindings t
  pub counters : s.counters ≡ counters t
  pub last_row : s.last_row ≡ last_row t
  pub store : StoreFit s.store t
  pub sending : SendingFit s.sending t
  pub names : NamesFit s.names t
  pub next_ids : NextIdsFit s.next_ids t

-- the delivery that a performative of the router carries
abbrev pub carried_in : (DeliveryName → Option ℕ) → Perf → (ℕ → Option ℕ) → Option ℕ
carried_in numbers (perf.Transfer x) known = carried numbers (tag_in x) (known x.handle)
carried_in numbers _ known = None

abbrev pub carried_by : (DeliveryName → Option ℕ) → Item → (ℕ → ℕ → Option ℕ) → Option ℕ
carried_by numbers (item.Frame sasl own body payload) known = carried_in numbers body (known own)
carried_by numbers _ known = None
