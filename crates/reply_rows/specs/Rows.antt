-- The rows of the reply table: the router's answer to an item on a live connection, by what the item finds: the connection's
-- phase, what is on the item's channel, and the lowest channel that is free for a session (AMQP 1.0 part 2, sections 2.2,
-- 2.4, 2.5 and 2.7).
use Rattle.std.specs.Prelude.{ℕ, Bool, false, nat_lt, if◌then◌else◌, List, [], ◌∷◌, length, Option, Some, None, Result, Ok, Err}
use Rattle.amqp_model.specs.declared.perf.Attach.{Attach as AnAttach}
use Rattle.amqp_model.specs.declared.perf.Begin.{Begin as ABegin}
use Rattle.amqp_model.specs.declared.perf.Detach.{Detach as ADetach}
use Rattle.amqp_model.specs.declared.perf.Disposition.{Disposition as ADisposition}
use Rattle.amqp_model.specs.declared.perf.Flow.{Flow as AFlow}
use Rattle.amqp_model.specs.declared.perf.Open.{Open as AnOpen}
use Rattle.amqp_model.specs.declared.perf.Perf.{Perf}
use Rattle.amqp_model.specs.declared.perf.Transfer.{Transfer as ATransfer}
use Rattle.amqp_model.specs.declared.perf.Perf.TheVariants as perf
use Rattle.amqp_model.specs.declared.frame_fault.FrameFault.{FrameFault}
use Rattle.amqp_model.specs.declared.frame_fault.FrameFault.TheVariants as fault
use Rattle.amqp_model.specs.declared.item.Item.{Item}
use Rattle.amqp_model.specs.declared.item.Item.TheVariants as item
use Rattle.amqp_conn.specs.declared.conn.Conn.{Conn}
use Rattle.amqp_conn.specs.declared.fault.ConnFault.{ConnFault}
use Rattle.amqp_conn.specs.declared.fault.ConnFault.TheVariants.{ChannelTooHigh}
use Rattle.amqp_conn.specs.Phase.{header_in_turn, open_in_turn, frame_in_turn, close_in_turn}
use Rattle.amqp_session.specs.Session.{Session, TheirFlow}
use Rattle.router_trace.specs.declared.condition.Condition.{Condition}
use Rattle.router_trace.specs.declared.condition.Condition.TheVariants.{NotAllowed, FramingError, DecodeError, ResourceLimitExceeded}
use Rattle.router_trace.specs.Frames.{header_item, open_item, close_item, begin_item, end_item, flow_item, closing, told_of}
use Rattle.router_trace.specs.LinkFrames.{detach_item, link_flow_item}
use Rattle.router_trace.specs.Links.{LinkPlace}
use Rattle.router_trace.specs.Sessions.{Place, nowhere, ending, on, flow_state}
use Rattle.reply_rows.specs.LinkRows.{session_attach_reply, session_detach_reply, link_flow_reply, session_transfer_reply, session_disposition_reply}
use Rattle.reply_rows.specs.declared.answer.Answer.{Answer}
use Rattle.reply_rows.specs.declared.answer.Answer.TheVariants.{Nothing, Header, Open, Close, CloseWith, Begin, End, Flow, Detach, LinkFlow}

-- the items of an answer, on a connection in this phase
abbrev pub said : List ℕ → Conn → Answer → List Item
said id p Nothing = []
said id p Header = header_item ∷ []
said id p Open = open_item id ∷ []
said id p Close = close_item None ∷ []
said id p (CloseWith x) = closing id p x
said id p (Begin own theirs) = begin_item own (Some theirs) ∷ []
said id p (End own x) = end_item own x ∷ []
said id p (Flow own told) = flow_item own told ∷ []
said id p (Detach own handle closed x) = detach_item own handle closed x ∷ []
said id p (LinkFlow own told at) = link_flow_item own told at ∷ []
said id p _ = []

-- a header: the first is answered by the header, a later one is a framing error
abbrev pub header_by : Result (Unit {0}) ConnFault → Answer
header_by (Ok q) = Header
header_by (Err f) = CloseWith FramingError

abbrev pub header_reply : Conn → Answer
header_reply p = header_by (header_in_turn p)

-- a faulty frame: its body is faulty, or the frame itself
abbrev pub condition_of : FrameFault → Condition
condition_of (fault.Perf f) = DecodeError
condition_of _ = FramingError

abbrev pub bad_frame_reply : FrameFault → Answer
bad_frame_reply f = CloseWith (condition_of f)

-- an open: a second one, or one whose largest frame is below 512 bytes, isn't allowed; a container-id has at most 1,024
-- bytes; else the router's open
abbrev pub open_by : AnOpen → Result (Unit {0}) ConnFault → Answer
open_by o (Ok q) = if nat_lt 1024 (length o.container_id) then CloseWith ResourceLimitExceeded else Open
open_by o (Err f) = CloseWith NotAllowed

abbrev pub open_reply : Conn → AnOpen → Answer
open_reply p o = open_by o (open_in_turn o p)

-- a SASL frame, a SASL body, or a performative before the open
abbrev pub early_frame_reply : Answer
early_frame_reply = CloseWith NotAllowed

-- a channel above 14
abbrev pub channel_reply : Answer
channel_reply = CloseWith FramingError

-- a performative other than begin, on a channel without a session
abbrev pub no_session_reply : Answer
no_session_reply = CloseWith NotAllowed

-- a frame that isn't in turn: before the open, or on a channel above 14
abbrev pub out_of_turn : ConnFault → Answer
out_of_turn ChannelTooHigh = channel_reply
out_of_turn _ = early_frame_reply

-- a close: the router's close, which ends the connection; where it isn't in turn, what any frame gets there
abbrev pub close_by : Result (Unit {0}) ConnFault → Answer
close_by (Ok q) = Close
close_by (Err f) = out_of_turn f

abbrev pub close_reply : Conn → ℕ → Answer
close_reply p channel = close_by (close_in_turn channel p)

-- events without an answer
abbrev pub silent_reply : Answer
silent_reply = Nothing

-- the loss of a connection
abbrev pub down_reply : List Item
down_reply = []

-- a heartbeat
abbrev pub beat_reply : ℕ → Answer
beat_reply channel = if nat_lt 14 channel then channel_reply else silent_reply

-- a begin: on a channel in use, or if it answers a begin of the router that awaits no answer, it isn't allowed; if it answers one that
-- does, it has no answer of its own; if no channel of the router is free there is no room; else the router's begin on its lowest free channel
abbrev pub begin_on : ℕ → Option ℕ → Answer
begin_on theirs None = CloseWith ResourceLimitExceeded
begin_on theirs (Some own) = Begin own theirs

abbrev pub is_awaited : (ℕ → Bool) → Option ℕ → Bool
is_awaited awaits None = false
is_awaited awaits (Some own) = awaits own

abbrev pub answering : Bool → Answer
answering awaited = if awaited then silent_reply else CloseWith NotAllowed

abbrev pub begin_by : ℕ → Option ℕ → (ℕ → Bool) → Option ℕ → Answer
begin_by theirs free awaits (Some own) = answering (awaits own)
begin_by theirs free awaits None = begin_on theirs free

abbrev pub begin_reply : Place → Option ℕ → (ℕ → Bool) → ℕ → ABegin → Answer
begin_reply nowhere free awaits theirs b = begin_by theirs free awaits b.remote_channel
begin_reply ending free awaits theirs b = silent_reply
begin_reply (on own h) free awaits theirs b = CloseWith NotAllowed

-- an end: the router's end, without an error; none if it answers the router's own end
abbrev pub end_reply : Place → Answer
end_reply nowhere = no_session_reply
end_reply ending = silent_reply
end_reply (on own h) = End own None

-- a flow without a handle: if it asks for one, the router's flow with the state after it
abbrev pub echo : Bool → ℕ → Session → Answer
echo wanted own h = if wanted then Flow own (told_of h) else silent_reply

-- a flow, an attach, a transfer and a detach, if the handles of a session stand for these links
abbrev pub Links : Type 0
Links = ℕ → ℕ → LinkPlace

abbrev pub flow_on : ℕ → Session → (ℕ → LinkPlace) → AFlow → Option ℕ → Answer
flow_on own h links f None = echo f.echo own (TheirFlow (flow_state f) ∷ h)
flow_on own h links f (Some handle) = link_flow_reply own h (links handle) f

abbrev pub flow_reply : Place → Links → AFlow → Answer
flow_reply nowhere links f = no_session_reply
flow_reply ending links f = silent_reply
flow_reply (on own h) links f = flow_on own h (links own) f f.handle

abbrev pub attach_reply : Place → Links → (ℕ → Option ℕ) → AnAttach → Answer
attach_reply nowhere links free a = no_session_reply
attach_reply ending links free a = silent_reply
attach_reply (on own h) links free a = session_attach_reply own (links own a.handle) (free own) a

abbrev pub transfer_reply : Place → Links → (ℕ → ℕ → Bool) → ATransfer → Answer
transfer_reply nowhere links claimed x = no_session_reply
transfer_reply ending links claimed x = silent_reply
transfer_reply (on own h) links claimed x = session_transfer_reply own h (claimed own) (links own x.handle) x

abbrev pub detach_reply : Place → Links → ADetach → Answer
detach_reply nowhere links x = no_session_reply
detach_reply ending links x = silent_reply
detach_reply (on own h) links x = session_detach_reply own (links own x.handle) x

abbrev pub disposition_reply : Place → ADisposition → Answer
disposition_reply nowhere x = no_session_reply
disposition_reply ending x = silent_reply
disposition_reply (on own h) x = session_disposition_reply own x

-- What an item finds: what is on the peer's channels, the router's lowest free channel, the router's channels on which its begin awaits
-- the peer's, what the peer's handles stand for on the sessions of the router's channels, the router's lowest free handle on each, and the
-- peer's delivery-ids that aren't settled.
pub record Finds : Type 0 where
  pub places : ℕ → Place
  pub free_channel : Option ℕ
  pub awaits : ℕ → Bool
  pub links : Links
  pub free_handle : ℕ → Option ℕ
  pub claimed : ℕ → ℕ → Bool

-- a performative other than open, on an open connection and a channel in range, or not
abbrev pub in_turn : Finds → ℕ → Perf → Answer
in_turn k channel (perf.Begin b) = begin_reply (k.places channel) k.free_channel k.awaits channel b
in_turn k channel (perf.Attach a) = attach_reply (k.places channel) k.links k.free_handle a
in_turn k channel (perf.Flow f) = flow_reply (k.places channel) k.links f
in_turn k channel (perf.Transfer x) = transfer_reply (k.places channel) k.links k.claimed x
in_turn k channel (perf.Disposition x) = disposition_reply (k.places channel) x
in_turn k channel (perf.Detach x) = detach_reply (k.places channel) k.links x
in_turn k channel (perf.End x) = end_reply (k.places channel)
in_turn k channel _ = early_frame_reply

abbrev pub turn_by : Finds → ℕ → Perf → Result (Unit {0}) ConnFault → Answer
turn_by k channel body (Ok q) = in_turn k channel body
turn_by k channel body (Err f) = out_of_turn f

abbrev pub perf_reply : Conn → Finds → ℕ → Perf → Answer
perf_reply p k channel (perf.Open o) = open_reply p o
perf_reply p k channel (perf.Close x) = close_reply p channel
perf_reply p k channel body = turn_by k channel body (frame_in_turn channel p)

-- an item on a live connection in this phase
abbrev pub item_reply : Conn → Finds → Item → Answer
item_reply p k (item.Header i major minor revision) = header_reply p
item_reply p k (item.Frame sasl channel body payload) = if sasl then early_frame_reply else perf_reply p k channel body
item_reply p k (item.Beat channel) = beat_reply channel
item_reply p k (item.Bad f) = bad_frame_reply f
