-- The rows of the reply table for links: the router's answer, by what is on the frame's channel and handle (AMQP 1.0
-- part 2, sections 2.6 and 2.7.3 to 2.7.7).
use Rattle.std.specs.Prelude.{ℕ, ◌==◌, ◌^◌, Bool, true, false, not, ◌&&◌, nat_lt, nat_le, nat_eq, if◌then◌else◌, List, [], ◌∷◌, length, Option, Some, None, is_none, is_some, option_map, bytes_eq}
use Rattle.amqp_model.specs.declared.perf.Attach.{Attach as AnAttach}
use Rattle.amqp_model.specs.declared.perf.Detach.{Detach as ADetach}
use Rattle.amqp_model.specs.declared.perf.Disposition.{Disposition as ADisposition}
use Rattle.amqp_model.specs.declared.perf.Flow.{Flow as AFlow}
use Rattle.amqp_model.specs.declared.perf.Role.{Role}
use Rattle.amqp_model.specs.declared.perf.Role.TheVariants.{Sender, Receiver}
use Rattle.amqp_model.specs.declared.perf.Transfer.{Transfer as ATransfer}
use Rattle.amqp_model.specs.declared.terminus.Address.{Address}
use Rattle.amqp_model.specs.declared.terminus.Address.TheVariants as address
use Rattle.amqp_model.specs.declared.terminus.SourceTerminus.{SourceTerminus}
use Rattle.amqp_model.specs.declared.terminus.SourceTerminus.TheVariants as source
use Rattle.amqp_model.specs.declared.terminus.TargetTerminus.{TargetTerminus}
use Rattle.amqp_model.specs.declared.terminus.TargetTerminus.TheVariants as target
use Rattle.amqp_model.specs.declared.state.DeliveryState.{DeliveryState}
use Rattle.amqp_link.specs.declared.part.Delivery.{Delivery as Told}
use Rattle.amqp_session.specs.Serials.{distance}
use Rattle.amqp_session.specs.Session.{Session, TheirFlow, allowance}
use Rattle.amqp_link.specs.Credit as credit
use Rattle.amqp_link.specs.Receiving as receiving
use Rattle.amqp_link.specs.Receiving.{Received}
use Rattle.router_trace.specs.declared.condition.Condition.{Condition}
use Rattle.router_trace.specs.declared.condition.Condition.TheVariants.{NotAllowed, FramingError, ResourceLimitExceeded, NotImplemented, UnattachedHandle, HandleInUse, WindowViolation, NotFound, TransferLimitExceeded}
use Rattle.router_trace.specs.Frames.{told_of}
use Rattle.router_trace.specs.Sessions.{flow_state}
use Rattle.router_trace.specs.Links.{LinkPlace, nowhere, detaching, on, Happened, sends, receives, with_grant}
use Rattle.router_trace.specs.Deliveries.{terminal, tag_in}
use Rattle.router_trace.specs.Settling.{middle_by}
use Rattle.reply_rows.specs.declared.answer.Answer.{Answer}
use Rattle.reply_rows.specs.declared.answer.Answer.TheVariants.{Nothing, CloseWith, End, Refuse, Attach, Detach, LinkFlow, Taken, Settle}

-- Why a link is refused for its terminus at the router's side: there is none, or not of a kind that the router has, or it would have to be
-- created; its address isn't a string; it is empty; it, or the link's name, is longer than 1,024 bytes.
abbrev pub address_refusal : Option Address → List ℕ → Option Condition
address_refusal (Some (address.Text [])) name = Some NotFound
address_refusal (Some (address.Text (b ∷ bs))) name =
    if nat_lt 1024 (length (b ∷ bs)) then Some ResourceLimitExceeded else if nat_lt 1024 (length name) then Some ResourceLimitExceeded else None
address_refusal _ name = Some NotImplemented

abbrev pub terminus_refusal : Bool → Option Address → List ℕ → Option Condition
terminus_refusal dynamic at name = if dynamic then Some NotImplemented else address_refusal at name

abbrev pub source_refusal : Option SourceTerminus → List ℕ → Option Condition
source_refusal (Some (source.Source s)) name = terminus_refusal s.dynamic s.address name
source_refusal _ name = Some NotImplemented

abbrev pub target_refusal : Option TargetTerminus → List ℕ → Option Condition
target_refusal (Some (target.Target x)) name = terminus_refusal x.dynamic x.address name
target_refusal _ name = Some NotImplemented

abbrev pub side_refusal : Role → AnAttach → Option Condition
side_refusal Sender a = target_refusal a.target a.name
side_refusal Receiver a = source_refusal a.source a.name

abbrev pub refusal : AnAttach → Option Condition
refusal a = side_refusal a.role a

-- an attach on a handle of the peer that stands for nothing: if the router has no free handle that the peer accepts, there is no room
abbrev pub attach_or : Option Condition → ℕ → ℕ → Answer
attach_or (Some x) own handle = Refuse own handle x
attach_or None own handle = Attach own

abbrev pub attach_fresh : ℕ → Option ℕ → AnAttach → Answer
attach_fresh own None a = End own (Some ResourceLimitExceeded)
attach_fresh own (Some handle) a = attach_or (refusal a) own handle

-- an attach on a session: a handle above 63 is a framing error, and one that stands for a link ends the session; while the peer's
-- detach is awaited it is dropped
abbrev pub attach_at : ℕ → LinkPlace → Option ℕ → AnAttach → Answer
attach_at own nowhere free a = attach_fresh own free a
attach_at own detaching free a = Nothing
attach_at own (on h l) free a = End own (Some HandleInUse)

abbrev pub session_attach_reply : ℕ → LinkPlace → Option ℕ → AnAttach → Answer
session_attach_reply own at free a = if nat_lt 63 a.handle then CloseWith FramingError else attach_at own at free a

-- a detach: the router's, closed as the peer's is; none if it answers the router's own detach
abbrev pub session_detach_reply : ℕ → LinkPlace → ADetach → Answer
session_detach_reply own nowhere x = End own (Some UnattachedHandle)
session_detach_reply own detaching x = Nothing
session_detach_reply own (on h l) x = Detach own h x.closed None

-- A faulty frame detaches its link, which is closed unless it is durable.
abbrev pub detach_for : ℕ → ℕ → Bool → Condition → Answer
detach_for own handle durable x = Detach own handle (not durable) (Some x)

-- A link's flow: if it asks for one, the router's flow with the state of the session and of the link after it. A delivery-count that
-- is less than the peer's own, or ahead of it by more than the unused credit, isn't allowed.
abbrev pub link_echo : Bool → ℕ → Session → ℕ → ℕ → ℕ → Answer
link_echo wanted own h handle count left =
    if wanted then LinkFlow own (told_of h) (record { handle = handle; count = count; credit = left; drain = false }) else Nothing

abbrev pub is_reached : Option ℕ → ℕ → ℕ → Bool
is_reached None count unused = true
is_reached (Some n) count unused = nat_le (distance count n) unused

abbrev pub sender_echo : Bool → ℕ → Session → ℕ → credit.Link → Answer
sender_echo wanted own h handle list = link_echo wanted own h handle (credit.count list) (credit.credit list)

abbrev pub receiver_echo : Bool → ℕ → Session → ℕ → Received → Answer
receiver_echo wanted own h handle list = link_echo wanted own h handle (receiving.delivery_count list) (receiving.unused list)

abbrev pub count_after : Option ℕ → Received → Received
count_after None list = list
count_after (Some n) list = receiving.TheirCount n ∷ list

abbrev pub flow_on : ℕ → Session → ℕ → Bool → Happened → AFlow → Answer
flow_on own h handle durable (sends list) f = sender_echo f.echo own h handle (with_grant f f.link_credit list)
flow_on own h handle durable (receives list) f =
    if is_reached f.delivery_count (receiving.delivery_count list) (receiving.unused list)
    then receiver_echo f.echo own h handle (count_after f.delivery_count list)
    else detach_for own handle durable NotAllowed

abbrev pub link_flow_reply : ℕ → Session → LinkPlace → AFlow → Answer
link_flow_reply own h nowhere f = End own (Some UnattachedHandle)
link_flow_reply own h detaching f = Nothing
link_flow_reply own h (on handle l) f = flow_on own (TheirFlow (flow_state f) ∷ h) handle l.durable l.happened f

-- A transfer: on a handle that stands for nothing, beyond the session's window, or on a link on which the router is the sender, it ends the
-- session. A frame that starts a delivery without id or tag, or beyond the credit, detaches the link; with the id of a delivery that isn't
-- settled yet it ends the session. A later frame with another id or tag detaches the link too. Any other is taken with its payload.
-- (An id has 32 bits.)
abbrev pub is_serial : Option ℕ → Bool
is_serial None = false
is_serial (Some id) = nat_lt id (2 ^ 32)

abbrev pub is_anonymous : ATransfer → Bool
is_anonymous x = if is_serial x.delivery_id then is_none x.delivery_tag else true

abbrev pub is_among : (ℕ → Bool) → Option ℕ → Bool
is_among claimed None = false
is_among claimed (Some id) = claimed id

abbrev pub start_on : ℕ → ℕ → Bool → ℕ → (ℕ → Bool) → ATransfer → Answer
start_on own handle durable unused claimed x =
    if is_anonymous x then detach_for own handle durable NotAllowed
    else if is_among claimed x.delivery_id then End own (Some NotAllowed)
    else if nat_eq unused 0 then detach_for own handle durable TransferLimitExceeded
    else Taken own handle

abbrev pub is_same_id : Option ℕ → Option ℕ → Bool
is_same_id None first = true
is_same_id (Some id) None = false
is_same_id (Some id) (Some first) = id == first

abbrev pub is_same_tag : Option (List ℕ) → Option (List ℕ) → Bool
is_same_tag None first = true
is_same_tag (Some tag) None = false
is_same_tag (Some tag) (Some first) = bytes_eq tag first

abbrev pub continue_on : ℕ → ℕ → Bool → Told → ATransfer → Answer
continue_on own handle durable first x =
    if is_same_id x.delivery_id first.id && is_same_tag (tag_in x) (option_map (λ tag. tag.items) first.tag) then Taken own handle
    else detach_for own handle durable NotAllowed

abbrev pub delivery_by : ℕ → ℕ → Bool → ℕ → (ℕ → Bool) → Option Told → ATransfer → Answer
delivery_by own handle durable unused claimed None x = start_on own handle durable unused claimed x
delivery_by own handle durable unused claimed (Some first) x = continue_on own handle durable first x

abbrev pub delivery_on : ℕ → ℕ → Bool → (ℕ → Bool) → Happened → ATransfer → Answer
delivery_on own handle durable claimed (sends list) x = End own (Some NotAllowed)
delivery_on own handle durable claimed (receives list) x = delivery_by own handle durable (receiving.unused list) claimed (middle_by (receives list)) x

abbrev pub link_transfer_reply : ℕ → (ℕ → Bool) → LinkPlace → ATransfer → Answer
link_transfer_reply own claimed nowhere x = End own (Some UnattachedHandle)
link_transfer_reply own claimed detaching x = Nothing
link_transfer_reply own claimed (on handle l) x = delivery_on own handle l.durable claimed l.happened x

abbrev pub is_unattached : LinkPlace → Bool
is_unattached nowhere = true
is_unattached _ = false

abbrev pub session_transfer_reply : ℕ → Session → (ℕ → Bool) → LinkPlace → ATransfer → Answer
session_transfer_reply own h claimed at x =
    if is_unattached at then End own (Some UnattachedHandle)
    else if nat_eq (allowance h) 0 then End own (Some WindowViolation)
    else link_transfer_reply own claimed at x

-- A disposition: if the peer as a receiver decides deliveries without settling them, each is answered.
abbrev pub asks : Role → Bool → Option DeliveryState → Bool
asks Sender settled decided = false
asks Receiver settled decided = not settled && is_some decided

abbrev pub session_disposition_reply : ℕ → ADisposition → Answer
session_disposition_reply own x = if asks x.role x.settled (terminal x.state) then Settle own else Nothing
