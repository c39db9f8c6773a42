-- The delivery that an event admits to the book: a whole delivery that came on a durable link, whose producer hasn't settled it and doesn't resume it, if
-- a consumer of its address is chosen.
use Rattle.std.specs.Prelude.{◌≡◌, ℕ, if◌then◌else◌, ◌||◌, is_none, List, [], ◌∷◌, Option, Some, None, option_map, unwrap_or}
use Rattle.amqp_link.specs.declared.part.Delivery.{Delivery as Told}
use Rattle.amqp_link.specs.declared.part.Part.{Part}
use Rattle.amqp_link.specs.declared.part.Part.TheVariants as part
use Rattle.amqp_model.specs.declared.item.Item.{Item}
use Rattle.book_model.specs.declared.act.Act.{Act}
use Rattle.book_model.specs.declared.act.Act.TheVariants.{Make, Admit, Decide, Forget, Drop}
use Rattle.book_model.specs.declared.act.Admission.{Admission}
use Rattle.book_model.specs.declared.row.RowNumber.{RowNumber}
use Rattle.book_model.specs.declared.terminus.LinkKey.{LinkKey}
use Rattle.book_model.specs.declared.terminus.TerminusNumber.{TerminusNumber}
use Rattle.book_model.specs.Book.{BookView, terminus_of}
use Rattle.journal_store.specs.Acting.{admission_acts}
use Rattle.router_trace.specs.declared.event.Event.{Event}
use Rattle.router_trace.specs.declared.event.Event.TheVariants as event
use Rattle.router_trace.specs.declared.handle.Attachment.{Attachment}
use Rattle.router_trace.specs.Trace.{Trace, did, Booked}
use Rattle.router_trace.specs.Connection.{due}
use Rattle.router_trace.specs.Following.{link_of}
use Rattle.router_trace.specs.Links.{link, link_place, durable_key}
use Rattle.router_trace.specs.Settling.{part_of}
use Rattle.state_messages.specs.Messages.{IsChosen, consumer_of}
use Rattle.reply_rows.specs.declared.answer.Answer.{Answer}
use Rattle.reply_rows.specs.declared.answer.Answer.TheVariants.{Taken}
use Rattle.reply_transfers.specs.Transfers.{claimed_id}

-- the number of a durable link's terminus in the book
abbrev pub terminus_for : BookView → Option LinkKey → Option TerminusNumber
terminus_for b None = None
terminus_for b (Some key) = option_map (λ x. x.number) (terminus_of key b.termini)

-- the admission of a delivery from this producer to this consumer, whose link may be volatile
abbrev pub admission_of : BookView → TerminusNumber → Option TerminusNumber → Told → List ℕ → Admission
admission_of b producer consumer d payload = record {
  row = record { 0 = b.next_row };
  producer = producer;
  tag = unwrap_or d.tag (record { items = [] });
  consumer = consumer;
  format = unwrap_or d.format 0;
  payload = payload;
}

abbrev pub admitted_to : BookView → Trace → Option TerminusNumber → Option Attachment → Told → List ℕ → Option Admission
admitted_to b after (Some producer) (Some at) d payload = Some (admission_of b producer (terminus_for b (durable_key (link_of after at))) d payload)
admitted_to b after _ _ d payload = None

abbrev pub whole_admission : BookView → Trace → ℕ → ℕ → ℕ → Told → List ℕ → Option Admission
whole_admission b after c own handle d payload =
    if d.resume || is_none (claimed_id after c own handle d.id) then None
    else admitted_to b after (terminus_for b (durable_key (link after c own handle))) (consumer_of after (link after c own handle)) d payload

abbrev pub part_admission : BookView → Trace → ℕ → ℕ → ℕ → Option Part → Option Admission
part_admission b after c own handle (Some (part.Whole d payload)) = whole_admission b after c own handle d payload
part_admission b after c own handle _ = None

abbrev pub answer_admission : BookView → Trace → ℕ → Answer → Option Part → Option Admission
answer_admission b after c (Taken own handle) part = part_admission b after c own handle part
answer_admission b after c _ part = None

-- a transfer's, that is taken, by the trace before it and after it
abbrev pub taken_admission : BookView → Trace → Trace → ℕ → Item → Answer → Option Admission
taken_admission b t after c i (Taken own handle) = part_admission b after c own handle (part_of i (link_place t c own))
taken_admission b t after c i _ = None

-- Nothing is admitted by an event that ends a connection for its full outbox: the consumer could be on it.
abbrev pub unless_ends : List ℕ → Option Admission → Option Admission
unless_ends [] x = x
unless_ends (c ∷ cs) x = None

-- an event whose acts aren't known yet
abbrev pub without_acts : Trace → Event → Trace
without_acts t e = did e ∷ Booked [] (due t e) ∷ t

abbrev pub event_admission : BookView → Trace → Event → Answer → Option Admission
event_admission b t (event.Item c i) answer = unless_ends (due t (event.Item c i)) (taken_admission b t (without_acts t (event.Item c i)) c.0 i answer)
event_admission b t _ answer = None

-- If a consumer was chosen for the message of a transfer that is taken, it is this one, by the trace after the event. None was by an event that
-- ends a connection for its full outbox.
abbrev pub ChosenFor : Trace → ℕ → Answer → Option Attachment → Type 0
ChosenFor after c (Taken own handle) consumer = IsChosen after (link after c own handle) consumer
ChosenFor after c _ consumer = Unit {0}

abbrev pub EventChose : Trace → Event → Answer → Option Attachment → Type 0
EventChose after (event.Item c i) answer consumer = ChosenFor after c.0 answer consumer
EventChose after _ answer consumer = Unit {0}

abbrev pub ChoseUnlessEnds : List ℕ → Trace → Event → Answer → Option Attachment → Type 0
ChoseUnlessEnds [] after e answer consumer = EventChose after e answer consumer
ChoseUnlessEnds (c ∷ cs) after e answer consumer = consumer ≡ None

-- the acts of an admission, if the book takes it
abbrev pub admits : BookView → Option Admission → List Act
admits b None = []
admits b (Some x) = admission_acts b x

-- the row that acts admit
abbrev pub row_in : List Act → Option RowNumber
row_in [] = None
row_in (Make x ∷ acts) = row_in acts
row_in (Admit x ∷ acts) = Some x.row
row_in (Decide x ∷ acts) = row_in acts
row_in (Forget n ∷ acts) = row_in acts
row_in (Drop n ∷ acts) = row_in acts
