-- The items that the router writes (AMQP 1.0 part 2, sections 2.2, 2.4.5, 2.7.1, 2.7.2, 2.7.4, 2.7.8 and 2.7.9).
use Rattle.std.specs.Prelude.{ℕ, false, List, [], ◌∷◌, Option, Some, None, option_map, codes, if◌then◌else◌}
use Rattle.amqp_model.specs.declared.perf.Begin.{Begin}
use Rattle.amqp_model.specs.declared.perf.Flow.{Flow}
use Rattle.amqp_model.specs.declared.perf.Open.{Open}
use Rattle.amqp_model.specs.declared.state.Fault.{Fault}
use Rattle.amqp_model.specs.declared.perf.Perf.{Perf}
use Rattle.amqp_model.specs.declared.perf.Perf.TheVariants as perf
use Rattle.amqp_model.specs.declared.item.Item.{Item}
use Rattle.amqp_model.specs.declared.item.Item.TheVariants as item
use Rattle.amqp_conn.specs.declared.conn.Conn.{Conn}
use Rattle.amqp_session.specs.declared.states.FlowState.{FlowState}
use Rattle.amqp_session.specs.Session.{Session, next_incoming, next_outgoing}
use Rattle.router_trace.specs.declared.condition.Condition.{Condition}
use Rattle.router_trace.specs.declared.condition.Condition.TheVariants.{NotAllowed, FramingError, DecodeError, ResourceLimitExceeded, NotImplemented, UnattachedHandle, HandleInUse, WindowViolation, NotFound, FrameSizeTooSmall, Stolen, TransferLimitExceeded, MessageSizeExceeded}

-- the symbol of an error condition (2.8.15 to 2.8.18)
abbrev pub text_of : Condition → List ℕ
text_of NotAllowed = codes "amqp:not-allowed"
text_of FramingError = codes "amqp:connection:framing-error"
text_of DecodeError = codes "amqp:decode-error"
text_of ResourceLimitExceeded = codes "amqp:resource-limit-exceeded"
text_of NotImplemented = codes "amqp:not-implemented"
text_of UnattachedHandle = codes "amqp:session:unattached-handle"
text_of HandleInUse = codes "amqp:session:handle-in-use"
text_of WindowViolation = codes "amqp:session:window-violation"
text_of NotFound = codes "amqp:not-found"
text_of FrameSizeTooSmall = codes "amqp:frame-size-too-small"
text_of Stolen = codes "amqp:link:stolen"
text_of TransferLimitExceeded = codes "amqp:link:transfer-limit-exceeded"
text_of MessageSizeExceeded = codes "amqp:link:message-size-exceeded"

-- the protocol header of AMQP 1.0.0
abbrev pub header_item : Item
header_item = item.Header 0 1 0 0

-- a frame on a channel, and one on channel 0
abbrev pub frame_on : ℕ → Perf → Item
frame_on channel p = item.Frame false channel p []

abbrev pub frame_of : Perf → Item
frame_of p = frame_on 0 p

-- a heartbeat
abbrev pub beat_item : Item
beat_item = item.Beat 0

-- the router's open: its container-id, frames of at most 16,384 bytes, channels up to 14
abbrev pub router_open : List ℕ → Open
router_open id = record {
  container_id = id;
  hostname = None;
  max_frame_size = 16384;
  channel_max = 14;
  idle_time_out = None;
  outgoing_locales = [];
  incoming_locales = [];
  offered_capabilities = [];
  desired_capabilities = [];
  properties = None;
}

abbrev pub open_item : List ℕ → Item
open_item id = frame_of (perf.Open (router_open id))

-- an error with nothing but its condition
abbrev pub error_of : Condition → Fault
error_of x = record { condition = text_of x; description = None; info = None }

-- the router's close, with or without an error
abbrev pub close_item : Option Condition → Item
close_item x = frame_of (perf.Close (record { error = option_map error_of x }))

-- a close with an error; the router's open comes before it if it isn't written yet
abbrev pub closing : List ℕ → Conn → Condition → List Item
closing id p x = if p.opened then close_item (Some x) ∷ [] else open_item id ∷ close_item (Some x) ∷ []

-- the router's begin on its own channel, which answers the peer's begin on another or asks for one: its first transfer has the id 0, it
-- accepts 2,048 transfers, and handles up to 63
abbrev pub router_begin : Option ℕ → Begin
router_begin answers = record {
  remote_channel = answers;
  next_outgoing_id = 0;
  incoming_window = 2048;
  outgoing_window = 2048;
  handle_max = 63;
  offered_capabilities = [];
  desired_capabilities = [];
  properties = None;
}

abbrev pub begin_item : ℕ → Option ℕ → Item
begin_item own answers = frame_on own (perf.Begin (router_begin answers))

-- the router's end, with or without an error
abbrev pub end_item : ℕ → Option Condition → Item
end_item own x = frame_on own (perf.End (record { error = option_map error_of x }))

-- what a flow of the router says of a session: the session's counts, and an incoming-window of 2,048 transfers
abbrev pub told_of : Session → FlowState
told_of h = record { next_incoming = Some (next_incoming h); incoming_window = 2048; next_outgoing = next_outgoing h }

-- a flow without a handle
abbrev pub session_flow : FlowState → Flow
session_flow told = record {
  next_incoming_id = told.next_incoming;
  incoming_window = told.incoming_window;
  next_outgoing_id = told.next_outgoing;
  outgoing_window = 2048;
  handle = None;
  delivery_count = None;
  link_credit = None;
  available = None;
  drain = false;
  echo = false;
  properties = None;
}

abbrev pub flow_item : ℕ → FlowState → Item
flow_item own told = frame_on own (perf.Flow (session_flow told))
