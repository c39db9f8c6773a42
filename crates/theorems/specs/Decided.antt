-- What decided a delivery (AMQP 1.0 part 2, sections 2.6.12 and 2.7.6; the outcomes in part 3, section 3.4): an entry of the trace, which
-- gives the outcome. All of this holds of any trace.
use Rattle.std.specs.Prelude.{◌≡◌, ℕ, ◌+◌, Bool, true, false, List, ◌∷◌, ◌++◌, Option, Some, None}
use Rattle.amqp_model.specs.declared.perf.Attach.{Attach}
use Rattle.amqp_model.specs.declared.perf.Disposition.{Disposition}
use Rattle.amqp_model.specs.declared.perf.Perf.TheVariants as perf
use Rattle.amqp_model.specs.declared.perf.Role.TheVariants.{Receiver}
use Rattle.amqp_model.specs.declared.perf.Transfer.{Transfer}
use Rattle.amqp_model.specs.declared.state.DeliveryState.{DeliveryState}
use Rattle.amqp_model.specs.declared.state.DeliveryState.TheVariants as state
use Rattle.amqp_model.specs.declared.item.Item.{Item}
use Rattle.amqp_model.specs.declared.item.Item.TheVariants as item
use Rattle.amqp_session.specs.Ranges.{in_range}
use Rattle.book_model.specs.declared.row.RowNumber.{RowNumber}
use Rattle.router_trace.specs.declared.binding.DeliveryName.TheVariants.{Row}
use Rattle.router_trace.specs.declared.event.ConnectionId.{ConnectionId}
use Rattle.router_trace.specs.declared.event.Event.TheVariants as event
use Rattle.router_trace.specs.declared.channel.PeerChannel.TheVariants.{Mapped}
use Rattle.router_trace.specs.declared.binding.Binding.{Binding}
use Rattle.router_trace.specs.Trace.{Trace, Entry, Did, Out, Bound, Step, IsOneRun}
use Rattle.router_trace.specs.Links.{ends_handle}
use Rattle.router_trace.specs.Deliveries.{Delivery, bindings, outcome_in, holds_standing, acts_found, outcome_among, channels_found, number_named, delivery, named, terminal, decision, failed, closes, last_of, tag_in, carried, sending}

-- Its consumer gave it: a disposition was received, as a receiver's, on the link's session; the delivery's id is in its range, and
-- names this delivery; the outcome is its state if that is terminal, and modified with delivery-failed if it settles without one.
pub record GivenByConsumer (entry : Entry) (t : Trace) (n : ℕ) (d : Delivery) (outcome : DeliveryState) : Type 0 where
  pub step : Step
  pub conn : ConnectionId
  pub channel : ℕ
  pub disposition : Disposition
  pub payload : List ℕ
  pub id : ℕ
  pub entry_is : entry ≡ Did step
  pub came : step.event ≡ event.Item conn (item.Frame false channel (perf.Disposition disposition) payload)
  pub receiver : disposition.role ≡ Receiver
  pub on_connection : conn.0 ≡ d.link.conn.0
  pub on_session : channels_found t conn.0 channel ≡ Some (Mapped d.link.channel)
  pub has_id : d.id ≡ Some id
  pub in_its_range : in_range disposition.first (last_of disposition) id ≡ true
  pub id_names_it : named t d.link.conn.0 d.link.channel id ≡ Some n
  pub gives : decision disposition.settled (terminal disposition.state) ≡ Some outcome
  pub undecided : d.outcome ≡ None

-- It was given with an attach: one was received, and its acts decide the delivery's row (2.6.13), as the map of the attach says, or since the delivery's link
-- ends by the same event. The delivery may have been suspended since its link was lost.
pub record GivenByAttach (entry : Entry) (t : Trace) (d : Delivery) (outcome : DeliveryState) : Type 0 where
  pub step : Step
  pub conn : ConnectionId
  pub channel : ℕ
  pub attach : Attach
  pub payload : List ℕ
  pub row : RowNumber
  pub entry_is : entry ≡ Did step
  pub came : step.event ≡ event.Item conn (item.Frame false channel (perf.Attach attach) payload)
  pub name : d.name ≡ Row row
  pub gives : outcome_among (acts_found t) row ≡ Some outcome
  pub undecided : d.outcome ≡ None

-- The consumer's link ended, while it was undecided: the connection was lost, or a detach of the link, an end of its session or a close was
-- put out. The message may have come there, so it is modified with delivery-failed. A delivery that outlives its consumer's connection is decided only by a
-- detach that closes the link for good; any other end of the link suspends it, and no end decides a suspended one.
pub record LinkLost (entry : Entry) (d : Delivery) : Type 0 where
  pub step : Step
  pub conn : ConnectionId
  pub entry_is : entry ≡ Did step
  pub lost : step.event ≡ event.Down conn
  pub on_connection : d.link.conn.0 ≡ conn.0
  pub not_suspended : d.suspended ≡ false
  pub not_lasting : d.lasting ≡ false

-- a detach that closes its link for good
abbrev pub is_for_good : Item → Bool
is_for_good (item.Frame sasl own body payload) = closes body
is_for_good _ = false

pub record LinkEnded (entry : Entry) (d : Delivery) : Type 0 where
  pub conn : ℕ
  pub item : Item
  pub entry_is : entry ≡ Out conn item
  pub on_connection : d.link.conn.0 ≡ conn
  pub ends : ends_handle item d.link.channel d.link.handle ≡ true
  pub not_suspended : d.suspended ≡ false
  pub for_good : d.lasting ≡ true → is_for_good item ≡ true

-- Its producer had settled it, so no consumer decides: it is accepted after the last of its frames.
pub record SentSettled (entry : Entry) (t : Trace) (n : ℕ) (d : Delivery) : Type 0 where
  pub conn : ℕ
  pub sasl : Bool
  pub own : ℕ
  pub transfer : Transfer
  pub payload : List ℕ
  pub entry_is : entry ≡ Out conn (item.Frame sasl own (perf.Transfer transfer) payload)
  pub carries : carried (number_named t) (tag_in transfer) (sending t conn own transfer.handle) ≡ Some n
  pub last : transfer.more ≡ false
  pub presettled : d.presettled ≡ true

-- A row that is bound again may be decided, when its consumer's link takes it up, or when it is joined to its producer's link: its binding brings the
-- outcome that the book has of it (`BringsItsOutcome`, `JoinsRow`, `HoldsRow`). So there was no delivery with that number before.
pub record BroughtBack (entry : Entry) (t : Trace) (n : ℕ) (outcome : DeliveryState) : Type 0 where
  pub binding : Binding
  pub entry_is : entry ≡ Bound binding
  pub number : bindings t + 1 ≡ n
  pub numbered : holds_standing binding.kind ≡ None
  pub brings : outcome_in binding.kind ≡ Some outcome

-- an entry after a trace decides the delivery with a number, as it was in the trace
pub data Decides (entry : Entry) (t : Trace) (n : ℕ) (d : Delivery) (outcome : DeliveryState) : Type 0 where
  given_by_consumer : GivenByConsumer entry t n d outcome → Decides entry t n d outcome
  given_by_attach : GivenByAttach entry t d outcome → Decides entry t n d outcome
  link_lost : LinkLost entry d → d.outcome ≡ None → outcome ≡ failed → Decides entry t n d outcome
  link_ended : LinkEnded entry d → d.outcome ≡ None → outcome ≡ failed → Decides entry t n d outcome
  sent_settled : SentSettled entry t n d → outcome ≡ state.Accepted → Decides entry t n d outcome

-- it decides the delivery that was found there, or brings it decided
abbrev pub DecidesFound : Entry → Trace → ℕ → Option Delivery → DeliveryState → Type 0
DecidesFound entry t n None outcome = BroughtBack entry t n outcome
DecidesFound entry t n (Some d) outcome = Decides entry t n d outcome

-- an entry of a trace decided a delivery in this run, and the outcome is the one that it gives
pub record Decided (u : Trace) (n : ℕ) (outcome : DeliveryState) : Type 0 where
  pub later : Trace
  pub entry : Entry
  pub before : Trace
  pub trace : u ≡ later ++ entry ∷ before
  pub one_run : IsOneRun later
  pub found : Option Delivery
  pub there : delivery before n ≡ found
  pub decides : DecidesFound entry before n found outcome

-- the delivery is decided by its consumer, or by the end of the consumer's link, or was brought decided
abbrev pub IsByConsumer : (entry : Entry) (t : Trace) (n : ℕ) (d : Delivery) (outcome : DeliveryState) → Decides entry t n d outcome → Type 0
IsByConsumer entry t n d outcome (sent_settled by accepted) = ⊥
IsByConsumer entry t n d outcome _ = Unit {0}

abbrev pub IsFoundByConsumer : (entry : Entry) (t : Trace) (n : ℕ) (found : Option Delivery) (outcome : DeliveryState) → DecidesFound entry t n found outcome → Type 0
IsFoundByConsumer entry t n None outcome decides = Unit {0}
IsFoundByConsumer entry t n (Some d) outcome decides = IsByConsumer entry t n d outcome decides

pub record DecidedByConsumer (u : Trace) (n : ℕ) (outcome : DeliveryState) : Type 0 where
  pub decided : Decided u n outcome
  pub by_consumer : IsFoundByConsumer decided.entry decided.before n decided.found outcome decided.decides

-- Each outcome of a delivery is as it was given: by its consumer, or the end of the consumer's link, or as the book had it of a row that was bound again,
-- if its producer hadn't settled it.
abbrev pub OutcomesAreGiven : Type 0
OutcomesAreGiven = (u : Trace) (n : ℕ) (d : Delivery) (outcome : DeliveryState)
    → delivery u n ≡ Some d → d.outcome ≡ Some outcome → Decided u n outcome

abbrev pub OutcomesAreOfConsumers : Type 0
OutcomesAreOfConsumers = (u : Trace) (n : ℕ) (d : Delivery) (outcome : DeliveryState)
    → delivery u n ≡ Some d → d.outcome ≡ Some outcome → d.presettled ≡ false → DecidedByConsumer u n outcome
