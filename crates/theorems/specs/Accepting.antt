-- Who accepted a durable message (AMQP 1.0 part 2, sections 2.6.12 and 2.6.13; part 3, section 3.4.2): the consumer of its row, by a disposition, or by the map
-- of the attach with which its link came back. It may have been in an earlier run, since the book crosses a stop.
use Rattle.std.specs.Prelude.{◌≡◌, ℕ, true, false, List, ◌∷◌, ◌++◌, Option, Some, None}
use Rattle.amqp_model.specs.declared.perf.Attach.{Attach}
use Rattle.amqp_model.specs.declared.perf.Disposition.{Disposition}
use Rattle.amqp_model.specs.declared.perf.Perf.{Perf}
use Rattle.amqp_model.specs.declared.perf.Perf.TheVariants as perf
use Rattle.amqp_model.specs.declared.perf.Role.{Role}
use Rattle.amqp_model.specs.declared.perf.Role.TheVariants.{Sender, Receiver}
use Rattle.amqp_model.specs.declared.state.DeliveryState.TheVariants as state
use Rattle.amqp_model.specs.declared.state.UnsettledDelivery.{UnsettledDelivery}
use Rattle.amqp_model.specs.declared.item.Item.{Item}
use Rattle.amqp_model.specs.declared.item.Item.TheVariants as item
use Rattle.amqp_session.specs.Ranges.{in_range}
use Rattle.book_model.specs.declared.act.Act.{Act}
use Rattle.book_model.specs.declared.act.Act.TheVariants.{Decide}
use Rattle.book_model.specs.declared.row.Row.{Row as ARow}
use Rattle.book_model.specs.declared.row.RowNumber.{RowNumber}
use Rattle.book_model.specs.declared.terminus.Terminus.{Terminus}
use Rattle.book_model.specs.Book.{terminus_of, is_for}
use Rattle.router_trace.specs.declared.binding.DeliveryName.TheVariants.{Row}
use Rattle.router_trace.specs.declared.event.ConnectionId.{ConnectionId}
use Rattle.router_trace.specs.declared.event.Event.{Event}
use Rattle.router_trace.specs.declared.event.Event.TheVariants as event
use Rattle.router_trace.specs.Trace.{Trace}
use Rattle.router_trace.specs.Deliveries.{Delivery, delivery, is_undecided, last_of}
use Rattle.router_trace.specs.Sessions.{session_on}
use Rattle.resume_core.specs.Resuming.{entries_of, told_of}
use Rattle.reply_rows.specs.Booking.{wanted_key, wants_durable}
use Rattle.reply_rows.specs.Acts.{acts_of, book_in, booked}
use Rattle.theorems.specs.OwnConsumer.{WasBoundToOwn}
use Rattle.theorems.specs.Told.{TellsOutcome}

-- By a disposition: one comes, as a receiver's, whose state is accepted; the row's delivery is undecided, stands on the
-- session on which it comes, and has an id in its range; and its link is that of the row's own consumer.
pub record ByDisposition (t : Trace) (e : Event) (row : RowNumber) : Type 0 where
  pub conn : ConnectionId
  pub channel : ℕ
  pub disposition : Disposition
  pub payload : List ℕ
  pub number : ℕ
  pub of : Delivery
  pub id : ℕ
  pub comes : e ≡ event.Item conn (item.Frame false channel (perf.Disposition disposition) payload)
  pub receiver : disposition.role ≡ Receiver
  pub accepts : disposition.state ≡ Some state.Accepted
  pub there : delivery t number ≡ Some of
  pub its_row : of.name ≡ Row row
  pub undecided : is_undecided of ≡ true
  pub own : WasBoundToOwn t row of.link
  pub on_connection : of.link.conn.0 ≡ conn.0
  pub on_session : session_on t conn.0 channel ≡ Some of.link.channel
  pub has_id : of.id ≡ Some id
  pub in_its_range : in_range disposition.first (last_of disposition) id ≡ true

-- By a map: the attach of a durable link comes, as a receiver's; the book has the row for the terminus of that link; and the map has the row's tag, with accepted.
pub record ByMap (t : Trace) (e : Event) (row : RowNumber) : Type 0 where
  pub conn : ConnectionId
  pub channel : ℕ
  pub attach : Attach
  pub payload : List ℕ
  pub kept : ARow
  pub earlier : List ARow
  pub later : List ARow
  pub terminus : Terminus
  pub entry : UnsettledDelivery
  pub comes : e ≡ event.Item conn (item.Frame false channel (perf.Attach attach) payload)
  pub receiver : attach.role ≡ Receiver
  pub durable : wants_durable attach ≡ true
  pub of_key : terminus_of (wanted_key t conn.0 attach) (book_in t).termini ≡ Some terminus
  pub in_the_book : (book_in t).rows ≡ earlier ++ kept ∷ later
  pub its_number : kept.number ≡ row
  pub waits : is_for terminus.number.0 kept ≡ true
  pub has_tag : told_of (entries_of attach.unsettled) kept ≡ Some entry
  pub accepts : entry.state ≡ Some state.Accepted

pub data Accepts (t : Trace) (e : Event) (row : RowNumber) : Type 0 where
  by_disposition : ByDisposition t e row → Accepts t e row
  by_map : ByMap t e row → Accepts t e row

-- A row was accepted, in this run or an earlier one: by an event with which its consumer accepted it, and whose acts
-- decided it so. The book had it before, and undecided.
pub record WasAccepted (u : Trace) (row : RowNumber) : Type 0 where
  pub later : Trace
  pub event : Event
  pub before : Trace
  pub trace : u ≡ later ++ booked before event
  pub earlier_acts : List Act
  pub later_acts : List Act
  pub decides : acts_of before event ≡ earlier_acts ++ Decide (record { row = row; outcome = state.Accepted }) ∷ later_acts
  pub accepts : Accepts before event row
  pub waiting : ARow
  pub older : List ARow
  pub newer : List ARow
  pub in_the_book : (book_in before).rows ≡ older ++ waiting ∷ newer
  pub its_number : waiting.number ≡ row
  pub undecided : waiting.outcome ≡ None

-- Each row of the book that is decided as accepted was accepted so.
abbrev pub RowsAreAcceptedByConsumers : Trace → Type 0
RowsAreAcceptedByConsumers u = (earlier later : List ARow) (row : ARow) → (book_in u).rows ≡ earlier ++ row ∷ later → row.outcome ≡ Some state.Accepted → WasAccepted u row.number

-- Where a disposition of the router tells a producer accepted, of a delivery with a row, the row was accepted so before.
abbrev pub role_tells_accepted : Role → Trace → ℕ → ℕ → Disposition → Type 0
role_tells_accepted Receiver t c own x =
    x.state ≡ Some state.Accepted → (report : TellsOutcome t c own x) (row : RowNumber) → report.of.name ≡ Row row → WasAccepted t row
role_tells_accepted Sender t c own x = Unit {0}

abbrev pub perf_tells_accepted : Perf → Trace → ℕ → ℕ → Type 0
perf_tells_accepted (perf.Disposition x) t c own = role_tells_accepted x.role t c own x
perf_tells_accepted _ t c own = Unit {0}

abbrev pub AcceptedIsTrue : Trace → ℕ → Item → Type 0
AcceptedIsTrue t c (item.Frame sasl own body payload) = perf_tells_accepted body t c own
AcceptedIsTrue t c _ = Unit {0}
