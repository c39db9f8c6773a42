-- The indexes of a table of deliveries.
use Rattle.std.specs.Prelude.{◌≡◌, ◌==◌, ℕ, Bool, true, false, not, ◌&&◌, ◌||◌, if◌then◌else◌, is_none, is_some, Option, Some, None, option_and_then}
use Rattle.amqp_model.specs.declared.perf.Transfer.{Transfer}
use Rattle.router_trace.specs.declared.binding.DeliveryName.{DeliveryName}
use Rattle.router_trace.specs.declared.binding.Origin.{Origin}
use Rattle.router_trace.specs.declared.binding.Rank.{Rank}
use Rattle.router_trace.specs.Deliveries.{Delivery, has_row, source, sender, holder, is_over, is_undecided, same_name, unless_over}
use Rattle.state_deliveries.specs.declared.by_rank.Turn.{Turn}
use Rattle.state_deliveries.specs.declared.change.Change.{Change}
use Rattle.state_deliveries.specs.declared.change.Change.TheVariants as change
use Rattle.state_deliveries.specs.declared.index.Index.{Index}
use Rattle.state_deliveries.specs.declared.spots.Spot.{Spot}
use Rattle.state_deliveries.specs.declared.standing.AtConsumer.{AtConsumer}
use Rattle.state_deliveries.specs.declared.standing.AtProducer.{AtProducer}
use Rattle.state_deliveries.specs.declared.standing.Left.{Left}
use Rattle.state_deliveries.specs.declared.standing.Seat.{Seat}
use Rattle.state_deliveries.specs.Placing.{SpotsFit, HandlesFit, IdsFit, spot_of, on_spot, from_spot, id_spot, own_spot, is_gone_there, is_id_there}
use Rattle.state_deliveries.specs.Ranking.{in_group, is_turn}
use Rattle.state_deliveries.specs.Tallying.{IsTallied, AreTallied}

-- the entries of a delivery in the indexes
abbrev pub on_link : ℕ → Bool → Option ℕ
on_link link holds = if holds then Some link else None

abbrev pub from_link : Option Origin → Bool → Option ℕ
from_link None holds = None
from_link (Some p) holds = on_link p.link.number holds

-- its place in the order of binding, on a link; 0 stands for all links
abbrev pub turn_on : ℕ → Rank → Bool → Option Turn
turn_on link rank holds = if holds then Some (record { link = link; rank = rank }) else None

-- what places a delivery's entries, and stays as long as it lives
abbrev pub seat_of : Delivery → Seat
seat_of d = record { link = d.link; rank = d.rank }

-- how a delivery stands at its consumer's link; the id that the router gave counts while it is undecided, if it has a
-- row
abbrev pub durable_id : Delivery → Option ℕ
durable_id d = if is_undecided d && has_row d.name then d.id else None

abbrev pub at_consumer : Delivery → AtConsumer
at_consumer d = record {
  waits = is_none d.id && d.going_on;
  goes_on = d.going_on;
  undecided = is_none d.outcome && not d.suspended;
  durable = durable_id d;
}

abbrev pub no_consumer : AtConsumer
no_consumer = record { waits = false; goes_on = false; undecided = false; durable = None }

abbrev pub consumer_if : Bool → Delivery → Option AtConsumer
consumer_if moves d = if moves then Some (at_consumer d) else None

-- the end of its link may change it
abbrev pub is_on : AtConsumer → Bool
is_on s = s.goes_on || s.undecided

-- its entries by its producer
abbrev pub at_producer : Delivery → AtProducer
at_producer d = record {
  held = from_link (holder d) (is_none d.outcome || has_row d.name);
  to_tell = turn_on 0 d.rank (not (is_none d.outcome) && is_some d.origin);
  from = from_spot (sender d);
  by_id = id_spot (source d);
}

abbrev pub no_producer : AtProducer
no_producer = record { held = None; to_tell = None; from = None; by_id = None }

abbrev pub producer_of : Option Delivery → AtProducer
producer_of None = no_producer
producer_of (Some d) = at_producer d

abbrev pub producer_if : Bool → Delivery → Option AtProducer
producer_if moves d = if moves then Some (at_producer d) else None

-- the entries at a consumer's link of a delivery that stands there like this
pub record ConsumerKeys : Type 0 where
  pub waiting : Option ℕ
  pub unsent : Option Turn
  pub undecided : Option ℕ
  pub on : Option Spot
  pub durable : Option Spot

abbrev pub consumer_keys : Seat → AtConsumer → ConsumerKeys
consumer_keys p s = record {
  waiting = on_link p.link.number s.waits;
  unsent = turn_on p.link.number p.rank s.goes_on;
  undecided = on_link p.link.number s.undecided;
  on = on_spot (spot_of p.link) (is_on s);
  durable = own_spot p.link s.durable;
}

-- all entries of a delivery
pub record Keys : Type 0 where
  pub consumer : ConsumerKeys
  pub producer : AtProducer

abbrev pub keys : Delivery → Keys
keys d = record { consumer = consumer_keys (seat_of d) (at_consumer d); producer = at_producer d }

abbrev pub nowhere : Keys
nowhere = record {
  consumer = record { waiting = None; unsent = None; undecided = None; on = None; durable = None };
  producer = no_producer;
}

abbrev pub standing : Option Delivery → Keys
standing None = nowhere
standing (Some d) = keys d

abbrev pub with_consumer : ConsumerKeys → Keys → Keys
with_consumer c k = record { consumer = c; producer = k.producer }

abbrev pub with_producer : AtProducer → Keys → Keys
with_producer p k = record { consumer = k.consumer; producer = p }

-- what is left to do of a delivery that was changed
abbrev pub left_of : Delivery → Left
left_of d = record { name = d.name; over = is_over d }

abbrev pub is_left_over : Option Left → Bool
is_left_over None = false
is_left_over (Some x) = x.over

abbrev pub is_left_name : Option Left → DeliveryName → Bool
is_left_name None name = false
is_left_name (Some x) name = x.over && same_name x.name name

-- A delivery was changed into d. Where the change may have moved it, its entries before are known: how it stood at its
-- consumer's link, and those by its
-- producer.
abbrev pub ConsumerBegins : Option AtConsumer → Delivery → ConsumerKeys → Type 0
ConsumerBegins None d k = Unit {0}
ConsumerBegins (Some before) d k = k ≡ consumer_keys (seat_of d) before

abbrev pub ProducerBegins : Option AtProducer → AtProducer → Type 0
ProducerBegins None k = Unit {0}
ProducerBegins (Some before) k = k ≡ before

abbrev pub Begins : Option AtConsumer → Option AtProducer → Delivery → Keys → Type 0
Begins c p d k = ConsumerBegins c d k.consumer × ProducerBegins p k.producer

-- what they are then
abbrev pub consumer_after : Option AtConsumer → Delivery → ConsumerKeys → ConsumerKeys
consumer_after None d k = k
consumer_after (Some before) d k = consumer_keys (seat_of d) (at_consumer d)

abbrev pub producer_after : Option AtProducer → Delivery → AtProducer → AtProducer
producer_after None d k = k
producer_after (Some before) d k = producer_of (unless_over d)

abbrev pub followed : Option AtConsumer → Option AtProducer → Delivery → Keys → Keys
followed c p d k = record { consumer = consumer_after c d k.consumer; producer = producer_after p d k.producer }

-- a delivery that may exist, after a change in its place; it is removed once it is over
abbrev pub stepped : (Delivery → Delivery) → Option Delivery → Option Delivery
stepped f v = option_and_then (λ d. unless_over (f d)) v

-- the entries of a number's delivery change: those at its consumer's link, and those by its producer
abbrev pub at_consumer_moved : ℕ → ConsumerKeys → (ℕ → Keys) → ℕ → Keys
at_consumer_moved m c known n = with_consumer (if m == n then c else (known n).consumer) (known n)

abbrev pub by_producer_moved : ℕ → AtProducer → (ℕ → Keys) → ℕ → Keys
by_producer_moved m p known n = with_producer (if m == n then p else (known n).producer) (known n)

-- a change may move a delivery at its consumer's link
abbrev pub moves_consumer : Change → Bool
moves_consumer (change.Ends g closed) = true
moves_consumer (change.Decided c o first last made) = true
moves_consumer _ = false

-- a delivery is decided once it has a transfer
abbrev pub is_decided_with : Transfer → Delivery → Bool
is_decided_with x d = is_some d.outcome || (d.presettled && not x.more)

-- each number has the entries that it should have, and links have the counts
pub record Indexes (s : Index) (known : ℕ → Keys) : Type 0 where
  pub consumers : AreTallied s.consumers (λ n. (known n).consumer.waiting) (λ n. (known n).consumer.undecided)
  pub unsent : (k : ℕ) (r : Rank) (n : ℕ) → in_group s.unsent k r n ≡ is_turn (known n).consumer.unsent k r
  pub held : IsTallied s.held (λ n. (known n).producer.held)
  pub to_tell : (k : ℕ) (r : Rank) (n : ℕ) → in_group s.to_tell k r n ≡ is_turn (known n).producer.to_tell k r
  pub on : HandlesFit s.on (λ n. (known n).consumer.on)
  pub from : HandlesFit s.from (λ n. (known n).producer.from)
  pub by_id : IdsFit s.by_id (λ n. (known n).producer.by_id)
  pub durable : SpotsFit s.durable (λ n. (known n).consumer.durable)

-- the change isn't a consumer's disposition, which finds its deliveries by their ids
abbrev pub is_by_place : Change → Bool
is_by_place (change.Decided c o first last made) = false
is_by_place _ = true

abbrev pub are_by_place : Option Change → Bool
are_by_place None = true
are_by_place (Some x) = is_by_place x

-- such a change may change a delivery with these entries
abbrev pub concerns : Change → Keys → Bool
concerns (change.Ends g closed) k = is_gone_there g k.consumer.on || is_gone_there g k.producer.from
concerns (change.Untold c o first last) k = is_id_there c o first last k.producer.by_id
concerns (change.Told c o first last) k = is_id_there c o first last k.producer.by_id
concerns (change.Decided c o first last made) k = false
