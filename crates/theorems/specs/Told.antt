-- Reports to producers (AMQP 1.0 part 2, sections 2.6.12 and 2.7.6): dispositions of the router as a receiver, each for one of their deliveries.
use Rattle.std.specs.Prelude.{◌≡◌, ◌≤◌, ◌⊎◌, ℕ, ◌+◌, Bool, true, false, not, if◌then◌else◌, List, [], ◌∷◌, ◌++◌, Option, Some, None}
use Rattle.amqp_model.specs.declared.perf.Disposition.{Disposition}
use Rattle.amqp_model.specs.declared.perf.Perf.{Perf}
use Rattle.amqp_model.specs.declared.perf.Perf.TheVariants as perf
use Rattle.amqp_model.specs.declared.perf.Role.{Role}
use Rattle.amqp_model.specs.declared.perf.Role.TheVariants.{Sender, Receiver}
use Rattle.amqp_model.specs.declared.state.DeliveryState.{DeliveryState}
use Rattle.amqp_model.specs.declared.state.DeliveryState.TheVariants as state
use Rattle.amqp_model.specs.declared.item.Item.{Item}
use Rattle.amqp_model.specs.declared.item.Item.TheVariants as item
use Rattle.amqp_link.specs.declared.part.Delivery.{Delivery as Told}
use Rattle.book_model.specs.declared.row.RowNumber.{RowNumber}
use Rattle.router_trace.specs.declared.binding.DeliveryName.{DeliveryName}
use Rattle.router_trace.specs.declared.binding.Origin.{Origin}
use Rattle.router_trace.specs.Trace.{Trace, Did, Out, Took, Bound, Booked, Routed, Began, IsOneRun}
use Rattle.router_trace.specs.Deliveries.{Delivery, has_row, same_name, joins_standing, name_in, bindings, delivery, is_meant, origin_id}
use Rattle.router_trace.specs.declared.condition.Condition.TheVariants.{NotImplemented}
use Rattle.router_trace.specs.DeliveryFrames.{kept_outcome}
use Rattle.router_trace.specs.Frames.{error_of}
use Rattle.router_trace.specs.Links.{Link, link}
use Rattle.router_trace.specs.Settling.{is_claimed_on}
use Rattle.state_messages.specs.Messages.{consumer_of}
use Rattle.router_state.specs.Copying.{goes_to_all}
use Rattle.reply_transfers.specs.Transfers.{lasts_on}
use Rattle.router_reply.specs.Replies.{row_found}
use Rattle.theorems.specs.OneConsumer.{WhileThere, joined_in}
use Rattle.theorems.specs.Decided.{DecidedByConsumer}
use Rattle.theorems.specs.Came.{CameWhole}

-- A disposition of the router as a receiver reports the outcome of a delivery if its range has the id that the delivery's producer gave it, on
-- the session of the producer's link.
abbrev pub tells_as : Role → Disposition → ℕ → ℕ → Option Origin → Bool
tells_as Receiver x c own origin = is_meant x (origin_id origin c own)
tells_as Sender x c own origin = false

abbrev pub tells_in : Perf → ℕ → ℕ → Option Origin → Bool
tells_in (perf.Disposition x) c own origin = tells_as x.role x c own origin
tells_in _ c own origin = false

abbrev pub tells : Item → ℕ → Option Delivery → Bool
tells (item.Frame sasl own body payload) c (Some d) = tells_in body c own d.origin
tells _ c v = false

-- a producer's resumed delivery is joined to this one
abbrev pub is_joined : Option Origin → DeliveryName → Option Delivery → Bool
is_joined (Some p) name (Some d) = same_name d.name name
is_joined _ name v = false

-- how often the outcome of a delivery was reported to its producer, since a resumed delivery of the producer was joined to it last
abbrev pub tellings : Trace → ℕ → ℕ
tellings [] n = 0
tellings (Did s ∷ t) n = tellings t n
tellings (Out c i ∷ t) n = tellings t n + (if tells i c (delivery t n) then 1 else 0)
tellings (Took c k ∷ t) n = tellings t n
tellings (Bound b ∷ t) n = if is_joined (joins_standing b.kind) (name_in t b) (delivery t n) then 0 else tellings t n
tellings (Booked acts full ∷ t) n = tellings t n
tellings (Routed passage ∷ t) n = tellings t n
tellings (Began g ∷ t) n = 0

-- at most once in a run, whatever happens, and at most once more for each delivery with which the producer resumes it
abbrev pub ToldAtMostOnce : Type 0
ToldAtMostOnce = (u : Trace) (n : ℕ) → tellings u n ≤ 1

-- After a disposition of the router as a receiver for one id, no delivery that was bound before it still has an outcome to report with
-- that id, on that session, unless a producer's delivery was joined to it since: another outcome with the id belongs to a message that was bound
-- later, or to a delivery that was joined later.
abbrev pub IsUnder : ℕ → ℕ → ℕ → Delivery → Type 0
IsUnder c own id d = origin_id d.origin c own ≡ Some id

abbrev pub ToldAnew : Type 0
ToldAnew = (t later : Trace) (c own : ℕ) (sasl : Bool) (x : Disposition) (payload : List ℕ) (n : ℕ) → IsOneRun later → x.role ≡ Receiver → x.last ≡ None → n ≤ bindings t
    → WhileThere (λ d. joined_in later d.name ≡ None → IsUnder c own x.first d → ⊥) (delivery (later ++ Out c (item.Frame sasl own (perf.Disposition x) payload) ∷ t) n)

-- The outcome of a delivery is reported: its producer has not been sent it, and gets it with its own delivery-id, on its link's session. It is
-- the outcome that the consumer gave before, as the router keeps it, and none was reported before. A durable delivery isn't settled by that.
pub record TellsOutcome (t : Trace) (c own : ℕ) (x : Disposition) : Type 0 where
  pub number : ℕ
  pub of : Delivery
  pub there : delivery t number ≡ Some of
  pub origin : Origin
  pub producer : of.origin ≡ Some origin
  pub on_connection : origin.link.conn.0 ≡ c
  pub on_session : origin.link.channel ≡ own
  pub its_id : origin.id ≡ x.first
  pub outcome : DeliveryState
  pub was_decided : of.outcome ≡ Some outcome
  pub given : DecidedByConsumer t number outcome
  pub told : x.state ≡ Some (kept_outcome outcome)
  pub settled : x.settled ≡ not (has_row of.name)
  pub first_time : tellings t number ≡ 0

-- why a message of a link isn't bound: no consumer is chosen for it, or its link is durable and it got no row
abbrev pub IsUnbound : Trace → Option Link → Option RowNumber → Type 0
IsUnbound t l row = (consumer_of t l ≡ None) ⊎ ((lasts_on l ≡ true) × (row ≡ None))

-- what its producer is told: that it is released, or rejected as not implemented, on an address whose messages go to every consumer
abbrev pub unbound_state : Bool → DeliveryState
unbound_state false = state.Released
unbound_state true = state.Rejected (record { error = Some (error_of NotImplemented) })

-- Or a message that is just complete is released, or rejected on a multicast address: it is bound to none, as no
-- consumer is chosen for it, or its link is durable and it got no row. Either way its event admitted no row. A durable
-- link's isn't settled by that: its producer settles it.
pub record ReleasesMessage (t : Trace) (c own : ℕ) (x : Disposition) : Type 0 where
  pub handle : ℕ
  pub message : Told
  pub payload : List ℕ
  pub came : CameWhole t c own handle message payload
  pub not_resumed : message.resume ≡ false
  pub its_id : message.id ≡ Some x.first
  pub unsettled : is_claimed_on t c own handle x.first ≡ true
  pub unbound : IsUnbound t (link t c own handle) (row_found came.handled.found)
  pub rowless : row_found came.handled.found ≡ None
  pub told : x.state ≡ Some (unbound_state (goes_to_all t (link t c own handle)))
  pub settled : x.settled ≡ not (lasts_on (link t c own handle))

-- A disposition of the router as a receiver is for one delivery: it reports an outcome, or releases a message, or rejects it.
pub record TellsProducer (t : Trace) (c own : ℕ) (x : Disposition) : Type 0 where
  pub one : x.last ≡ None
  pub of : TellsOutcome t c own x ⊎ ReleasesMessage t c own x

abbrev pub role_tells : Role → Trace → ℕ → ℕ → Disposition → Type 0
role_tells Receiver t c own x = TellsProducer t c own x
role_tells Sender t c own x = Unit {0}

abbrev pub perf_tells : Perf → Trace → ℕ → ℕ → Type 0
perf_tells (perf.Disposition x) t c own = role_tells x.role t c own x
perf_tells _ t c own = Unit {0}

abbrev pub TellsAsGiven : Trace → ℕ → Item → Type 0
TellsAsGiven t c (item.Frame sasl own body payload) = perf_tells body t c own
TellsAsGiven t c _ = Unit {0}
