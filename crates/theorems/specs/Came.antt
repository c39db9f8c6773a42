-- Messages received (AMQP 1.0 part 2, sections 2.6.14 and 2.7.5): a producer's delivery is complete with the frame that says that no more
-- are to come.
use Rattle.std.specs.Prelude.{◌≡◌, ◌⊎◌, ◌==◌, ℕ, ◌+◌, Bool, true, false, if◌then◌else◌, is_some, List, [], ◌∷◌, ◌++◌, Option, Some, None, unwrap_or, option_map}
use Rattle.amqp_model.specs.declared.perf.Perf.TheVariants as perf
use Rattle.amqp_model.specs.declared.perf.Transfer.{Transfer}
use Rattle.amqp_model.specs.declared.item.Item.TheVariants as item
use Rattle.amqp_model.specs.declared.state.DeliveryState.{DeliveryState}
use Rattle.amqp_link.specs.declared.part.Delivery.{Delivery as Told}
use Rattle.amqp_link.specs.Deliveries.{frame, bytes, delivery}
use Rattle.amqp_link.specs.Receiving.{Received, middle}
use Rattle.book_model.specs.Book.{terminus_of, is_for, is_from}
use Rattle.book_model.specs.declared.act.Act.{Act}
use Rattle.book_model.specs.declared.act.Act.TheVariants.{Forget}
use Rattle.book_model.specs.declared.row.Row.{Row as ARow}
use Rattle.book_model.specs.declared.row.RowNumber.{RowNumber}
use Rattle.book_model.specs.declared.terminus.LinkKey.{LinkKey}
use Rattle.book_model.specs.declared.terminus.LinkRole.TheVariants.{Producer}
use Rattle.book_model.specs.declared.terminus.Terminus.{Terminus}
use Rattle.router_trace.specs.declared.binding.Binding.{Binding}
use Rattle.router_trace.specs.declared.binding.BindingKind.{BindingKind}
use Rattle.router_trace.specs.declared.binding.BindingKind.TheVariants as kind
use Rattle.router_trace.specs.declared.binding.Holding.{Holding}
use Rattle.router_trace.specs.declared.binding.Holding.TheVariants as holding
use Rattle.router_trace.specs.declared.binding.Origin.{Origin}
use Rattle.router_trace.specs.declared.handle.Attachment.{Attachment}
use Rattle.router_trace.specs.declared.channel.PeerChannel.TheVariants.{Mapped}
use Rattle.router_trace.specs.declared.event.ConnectionId.{ConnectionId}
use Rattle.journal_store.specs.Acting.{journal_outcome}
use Rattle.router_trace.specs.declared.event.Event.TheVariants as event
use Rattle.router_trace.specs.Trace.{Trace, Entry, Did, Out, Took, Bound, Booked, Routed, Began, Step}
use Rattle.router_trace.specs.declared.binding.DeliveryName.TheVariants.{Row}
use Rattle.router_trace.specs.declared.binding.TakenUp.{TakenUp}
use Rattle.router_trace.specs.Deliveries.{Delivery, delivery as delivery_in, origin_of, joined_by, acts_found, called, outcome_among, outcome_as, origin_in, told_in, early_in, owned_in}
use Rattle.router_trace.specs.Configuration.{distribution, is_multicast}
use Rattle.router_trace.specs.Sessions.{theirs}
use Rattle.router_trace.specs.Links.{Link, receives, link, link_place, on, durable_key, holder}
use Rattle.router_trace.specs.Claims.{claims, Claim}
use Rattle.router_trace.specs.Settling.{is_claimed_on}
use Rattle.state_messages.specs.Asking.{consumer_with}
use Rattle.state_messages.specs.Messages.{consumer_of, copies_for, copy_to, lasts, payload_as}
use Rattle.router_state.specs.Copying.{copied_to}
use Rattle.reply_transfers.specs.Transfers.{claimed_id, from_link, lasts_on}
use Rattle.reply_rows.specs.Acts.{book_found, book_in, found_acts}
use Rattle.router_reply.specs.Holding.{as_held}
use Rattle.router_reply.specs.Replies.{row_found}
use Rattle.theorems.specs.OneConsumer.{IsOfMessage}

-- an event, and the trace that it found
pub record Handled : Type 0 where
  pub step : Step
  pub found : Trace

-- the last event handled, as long as only items were put out after it
abbrev pub just_handled : Trace → Option Handled
just_handled [] = None
just_handled (Did s ∷ t) = Some (record { step = s; found = t })
just_handled (Out c i ∷ t) = just_handled t
just_handled (Took c n ∷ t) = None
just_handled (Bound b ∷ t) = None
just_handled (Booked acts full ∷ t) = None
just_handled (Routed passage ∷ t) = just_handled t
just_handled (Began g ∷ t) = None

-- how many messages were bound after the last event handled
abbrev pub bound_since : Trace → ℕ
bound_since [] = 0
bound_since (Did s ∷ t) = 0
bound_since (Out c i ∷ t) = bound_since t
bound_since (Took c n ∷ t) = bound_since t
bound_since (Bound b ∷ t) = bound_since t + 1
bound_since (Booked acts full ∷ t) = bound_since t
bound_since (Routed passage ∷ t) = bound_since t
bound_since (Began g ∷ t) = 0

-- and how many of them to the link of a consumer, by its number
abbrev pub bound_to_since : Trace → ℕ → ℕ
bound_to_since [] n = 0
bound_to_since (Did s ∷ t) n = 0
bound_to_since (Out c i ∷ t) n = bound_to_since t n
bound_to_since (Took c k ∷ t) n = bound_to_since t n
bound_to_since (Bound b ∷ t) n = bound_to_since t n + (if b.consumer.number == n then 1 else 0)
bound_to_since (Booked acts full ∷ t) n = bound_to_since t n
bound_to_since (Routed passage ∷ t) n = bound_to_since t n
bound_to_since (Began g ∷ t) n = 0

-- A message is complete, on a link of a connection on which the peer is the sender, by the router's channel and handle: the frame just received,
-- on the session and the handle of the link, is the last of its delivery; the message is what its frames carry, in order.
pub record CameWhole (t : Trace) (c own handle : ℕ) (message : Told) (payload : List ℕ) : Type 0 where
  pub handled : Handled
  pub conn : ConnectionId
  pub channel : ℕ
  pub transfer : Transfer
  pub carried : List ℕ
  pub place : Link
  pub happened : Received
  pub just : just_handled t ≡ Some handled
  pub came : handled.step.event ≡ event.Item conn (item.Frame false channel (perf.Transfer transfer) carried)
  pub on_connection : conn.0 ≡ c
  pub on_session : theirs handled.found c channel ≡ Some (Mapped own)
  pub on_handle : link_place handled.found c own transfer.handle ≡ on handle place
  pub receiving : place.happened ≡ receives happened
  pub last : transfer.more ≡ false
  pub not_aborted : transfer.aborted ≡ false
  pub message_is : message ≡ delivery (frame transfer carried) (middle happened)
  pub payload_is : payload ≡ bytes (middle happened) ++ carried

-- where its outcome will be reported: to its producer, with the producer's delivery-id, unless the producer has settled it
abbrev pub ComesFrom : Option Origin → Trace → ℕ → ℕ → ℕ → Link → Told → Type 0
ComesFrom None t c own handle l message = claimed_id t c own handle message.id ≡ None
ComesFrom (Some p) t c own handle l message =
    (p.link ≡ from_link c own handle l) × (message.id ≡ Some p.id) × (is_claimed_on t c own handle p.id ≡ true)

-- A message of a durable link has a row in the book, unless its producer has settled it.
abbrev pub HasRowOn : Bool → Option Origin → Option RowNumber → Type 0
HasRowOn true (Some p) row = is_some row ≡ true
HasRowOn _ _ row = Unit {0}

-- A message is bound when it is just complete, as it was received, to the consumer chosen for the address of its producer's link.
-- No message was bound after that event before, so none is bound twice. Its row is the one that the acts of the event admit, and the binding says
-- whether the consumer's link is durable.
pub record BindsMessage (t : Trace) (b : Binding) : Type 0 where
  pub conn : ℕ
  pub own : ℕ
  pub handle : ℕ
  pub message : Told
  pub came : CameWhole t conn own handle message b.payload
  pub once : bound_since t ≡ 0
  pub not_resumed : message.resume ≡ false
  pub row : b.row ≡ row_found came.handled.found
  pub format : b.format ≡ unwrap_or message.format 0
  pub producer : Link
  pub attached : link t conn own handle ≡ Some producer
  pub chosen : consumer_of t (Some producer) ≡ Some b.consumer
  pub from : ComesFrom (origin_of b.kind) t conn own handle producer message
  pub has_row : HasRowOn (lasts_on (Some producer)) (origin_of b.kind) b.row
  pub lasting : b.lasting ≡ lasts t b.consumer

-- A message of an address whose messages go to every consumer is copied when it is just complete, as it was received, if its producer has settled it: a copy
-- is bound for each consumer that has free credit then, one after another. No message was bound after that event before.
pub record IsCopied (whole : Trace) : Type 0 where
  pub conn : ℕ
  pub own : ℕ
  pub handle : ℕ
  pub message : Told
  pub payload : List ℕ
  pub came : CameWhole whole conn own handle message payload
  pub none_before : bound_since whole ≡ 0
  pub not_resumed : message.resume ≡ false
  pub settled : claimed_id whole conn own handle message.id ≡ None
  pub producer : Link
  pub attached : link whole conn own handle ≡ Some producer
  pub to_all : is_multicast (distribution whole producer.address) ≡ true

-- the trace with its copies for these consumers
abbrev pub with_copies : (whole : Trace) → IsCopied whole → List Attachment → Trace
with_copies whole x consumers = copied_to (unwrap_or x.message.format 0) x.payload consumers whole

-- A copy is bound after those for the consumers before its own, and after nothing else since that event. No other is bound to its consumer. It has no row, and
-- no outcome of it is reported (`copy_to`).
pub record BindsCopy (t : Trace) (b : Binding) : Type 0 where
  pub whole : Trace
  pub copied : IsCopied whole
  pub before : List Attachment
  pub later : List Attachment
  pub consumers : copies_for whole (Some copied.producer) ≡ before ++ b.consumer ∷ later
  pub earlier : t ≡ with_copies whole copied before
  pub once : bound_to_since t b.consumer.number ≡ 0
  pub copy : b ≡ copy_to t (unwrap_or copied.message.format 0) copied.payload b.consumer

-- the trace that the last event found
abbrev pub last_found : Trace → Trace
last_found [] = []
last_found (Did s ∷ t) = t
last_found (Out c i ∷ t) = last_found t
last_found (Took c n ∷ t) = last_found t
last_found (Bound b ∷ t) = last_found t
last_found (Booked acts full ∷ t) = last_found t
last_found (Routed passage ∷ t) = last_found t
last_found (Began g ∷ t) = []

-- A row is bound again when a consumer's durable link takes it up: the book that the attach found has it for the terminus
-- of that link. It is bound with its message, unless it is brought with an outcome (`BringsItsOutcome`). Its producer's
-- delivery is that of the delivery which it had until then, whether that was told, or settled early, or neither, or is its link alone.
pub record TakesUp (t : Trace) (b : Binding) : Type 0 where
  pub brought : TakenUp
  pub taken : b.kind ≡ kind.TakenUp brought
  pub row : ARow
  pub number : b.row ≡ Some row.number
  pub earlier : List ARow
  pub later : List ARow
  pub kept : (book_found (last_found t)).rows ≡ earlier ++ row ∷ later
  pub format : b.format ≡ row.format
  pub payload : b.payload ≡ payload_as brought.how row.payload
  pub key : LinkKey
  pub terminus : Terminus
  pub of_key : terminus_of key (book_found (last_found t)).termini ≡ Some terminus
  pub waits : is_for terminus.number.0 row ≡ true
  pub attached : consumer_with t key ≡ Some b.consumer
  pub origin : brought.origin ≡ origin_in (called t (Row row.number))
  pub told : brought.told ≡ told_in (called t (Row row.number))
  pub early : brought.early ≡ early_in (called t (Row row.number))
  pub owned : brought.owned ≡ owned_in (called t (Row row.number))
  pub lasting : b.lasting ≡ lasts t b.consumer

-- The outcome that a row which is taken up brings is the one that the book has of it that the attach found. If it is
-- undecided there it is the one that the acts of the attach give it, as the journal keeps it, and none if they give none.
abbrev pub IsOutcomeThen : Option DeliveryState → Option DeliveryState → Option DeliveryState → Type 0
IsOutcomeThen (Some outcome) given brought = brought ≡ Some outcome
IsOutcomeThen None given brought = option_map journal_outcome brought ≡ given

abbrev pub BringsItsOutcome : Trace → Binding → Type 0
BringsItsOutcome t b =
    (takes : TakesUp t b)
    → IsOutcomeThen takes.row.outcome (outcome_among (acts_found (last_found t)) takes.row.number) (outcome_as takes.brought.how)

-- A row is bound again, too, when a delivery of its producer is joined to it, which the producer resumes and hasn't settled (2.6.13). That is just
-- complete; and the book after the acts of that event has the row, unforgotten, for the terminus of the producer's durable link, with the tag under
-- which the producer claims the delivery's id. From then on the row's outcome is told to that delivery: the row's delivery gets it as its origin, or a
-- new one does, which is never sent and has the outcome that the book has of the row.
pub record JoinsRow (t : Trace) (b : Binding) (origin : Origin) : Type 0 where
  pub conn : ℕ
  pub own : ℕ
  pub handle : ℕ
  pub message : Told
  pub payload : List ℕ
  pub came : CameWhole t conn own handle message payload
  pub once : bound_since t ≡ 0
  pub resumed : message.resume ≡ true
  pub producer : Link
  pub attached : link t conn own handle ≡ Some producer
  pub from : ComesFrom (Some origin) t conn own handle producer message
  pub claim : Claim
  pub claimed : claims t conn own origin.id ≡ Some claim
  pub on_link : claim.handle ≡ handle
  pub key : LinkKey
  pub durable : durable_key (Some producer) ≡ Some key
  pub terminus : Terminus
  pub of_key : terminus_of key (book_in t).termini ≡ Some terminus
  pub row : ARow
  pub earlier : List ARow
  pub later : List ARow
  pub kept : (book_in t).rows ≡ earlier ++ row ∷ later
  pub its_producer : row.producer.0 ≡ terminus.number.0
  pub same_tag : claim.tag ≡ Some row.tag.items
  pub unforgotten : row.forgotten ≡ false
  pub joins : b ≡ joined_by t (holding.Resumed origin) row.number row.outcome

-- A row is bound again, too, when a producer's durable link is attached again: the book after the acts of that event has it for the terminus of this link,
-- which is attached. The link has it from then on, and nothing is sent or told of it. It is settled if the book has it as forgotten.
pub record HoldsRow (t : Trace) (b : Binding) (q : Holding) : Type 0 where
  pub at : Attachment
  pub key : LinkKey
  pub role : key.role ≡ Producer
  pub attached : holder t key ≡ Some at
  pub terminus : Terminus
  pub of_key : terminus_of key (book_in t).termini ≡ Some terminus
  pub row : ARow
  pub earlier : List ARow
  pub later : List ARow
  pub kept : (book_in t).rows ≡ earlier ++ row ∷ later
  pub its_producer : is_from terminus.number.0 row ≡ true
  pub how : q ≡ as_held at row
  pub holds : b ≡ joined_by t q row.number row.outcome

-- The link that has a row like this has it settled once the acts of the last event forget it.
pub record SettlesRow (t : Trace) (b : Binding) (q : Holding) : Type 0 where
  pub row : RowNumber
  pub earlier : List Act
  pub later : List Act
  pub forgets : found_acts (last_found t) ≡ earlier ++ Forget row ∷ later
  pub owner : Origin
  pub owned : owned_in (called t (Row row)) ≡ Some owner
  pub how : q ≡ holding.Settled owner.link
  pub settles : b ≡ joined_by t q row None

abbrev pub JoinsAs : Holding → Trace → Binding → Type 0
JoinsAs (holding.Resumed origin) t b = JoinsRow t b origin
JoinsAs q t b = HoldsRow t b q ⊎ SettlesRow t b q

-- What is bound is a message, or a row that is taken up again, or a row that is joined to its producer's link: by a delivery, or without one. Or it is a copy
-- of a message.
abbrev pub BindsAs : BindingKind → Trace → Binding → Type 0
BindsAs (kind.Message origin) t b = BindsMessage t b
BindsAs (kind.TakenUp brought) t b = TakesUp t b
BindsAs (kind.Joined q to) t b = JoinsAs q t b

abbrev pub BindsByKind : Trace → Binding → Type 0
BindsByKind t b = BindsAs b.kind t b ⊎ BindsCopy t b

-- No consumer is left out: in a trace of the router the copies of a message are bound all together, for each consumer that gets one (`copies`). What is bound
-- by itself is no copy (`alone`), and no other entry binds anything (`entry`).
abbrev pub is_binding : Entry → Bool
is_binding (Bound b) = true
is_binding _ = false

pub data CopiesAreForAll : Trace → Type 0 where
  start : CopiesAreForAll []
  entry : (x : Entry) (t : Trace) → is_binding x ≡ false → CopiesAreForAll t → CopiesAreForAll (x ∷ t)
  alone : (b : Binding) (t : Trace) → BindsAs b.kind t b → CopiesAreForAll t → CopiesAreForAll (Bound b ∷ t)
  copies : (whole : Trace) (x : IsCopied whole) → CopiesAreForAll whole → CopiesAreForAll (with_copies whole x (copies_for whole (Some x.producer)))

-- So each delivery is of a message that was received completely and was bound or copied, or of a row that was bound again.
pub record CameAndWasBound (u : Trace) (n : ℕ) (d : Delivery) : Type 0 where
  pub message : IsOfMessage u n d
  pub binds : BindsByKind message.before message.binding

abbrev pub EachDeliveryCame : Trace → Type 0
EachDeliveryCame u = (n : ℕ) (d : Delivery) → delivery_in u n ≡ Some d → CameAndWasBound u n d
