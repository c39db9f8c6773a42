-- The link frames that the router writes (AMQP 1.0 part 2, sections 2.7.3, 2.7.4 and 2.7.7).
use Rattle.std.specs.Prelude.{ℕ, Bool, false, ◌==◌, nat_le, if◌then◌else◌, [], length, codes, Option, Some, None, option_map}
use Rattle.amqp_model.specs.declared.perf.Attach.{Attach}
use Rattle.amqp_model.specs.declared.perf.Flow.{Flow}
use Rattle.amqp_model.specs.declared.perf.Perf.TheVariants as perf
use Rattle.amqp_model.specs.declared.perf.Role.{Role}
use Rattle.amqp_model.specs.declared.perf.Role.TheVariants.{Sender, Receiver}
use Rattle.amqp_model.specs.declared.terminus.SourceTerminus.{SourceTerminus}
use Rattle.amqp_model.specs.declared.terminus.SourceTerminus.TheVariants as source
use Rattle.amqp_model.specs.declared.terminus.TargetTerminus.{TargetTerminus}
use Rattle.amqp_model.specs.declared.terminus.TargetTerminus.TheVariants as target
use Rattle.amqp_model.specs.declared.item.Item.{Item}
use Rattle.amqp_model.specs.ItemSpelling.{item_spelling}
use Rattle.amqp_session.specs.declared.states.FlowState.{FlowState}
use Rattle.router_trace.specs.declared.condition.Condition.{Condition}
use Rattle.router_trace.specs.declared.frames.LinkState.{LinkState}
use Rattle.router_trace.specs.Frames.{frame_on, error_of, session_flow}
use Rattle.router_trace.specs.Durable.{is_durable}

-- a detach on a handle of the router
abbrev pub detach_item : ℕ → ℕ → Bool → Option Condition → Item
detach_item own handle closed x = frame_on own (perf.Detach (record { handle = handle; closed = closed; error = option_map error_of x }))

-- The answer to an attach: the same name, the opposite role, and both termini as received, except that no filter is in place and
-- that the router keeps no configuration of a terminus (durable 1 becomes 0).
abbrev pub other : Role → Role
other Sender = Receiver
other Receiver = Sender

abbrev pub kept : ℕ → ℕ
kept durable = if durable == 1 then 0 else durable

abbrev pub source_answer : Option SourceTerminus → Option SourceTerminus
source_answer (Some (source.Source s)) = Some (source.Source (record s { durable = kept s.durable; filter = None }))
source_answer s = s

abbrev pub target_answer : Option TargetTerminus → Option TargetTerminus
target_answer (Some (target.Target x)) = Some (target.Target (record x { durable = kept x.durable }))
target_answer x = x

-- As a sender, the router starts at the delivery-count 0 and leaves it open whether it settles. As a receiver, it lets the peer settle
-- first and accepts messages of at most 65,536 bytes.
abbrev pub sender_mode : Role → ℕ → ℕ
sender_mode Sender mode = mode
sender_mode Receiver mode = 2

abbrev pub receiver_mode : Role → ℕ → ℕ
receiver_mode Sender mode = 0
receiver_mode Receiver mode = mode

abbrev pub first_count : Role → Option ℕ
first_count Sender = None
first_count Receiver = Some 0

abbrev pub largest_message : Role → Option ℕ
largest_message Sender = Some 65536
largest_message Receiver = None

abbrev pub plain_answer : Attach → ℕ → Attach
plain_answer a handle = record {
  name = a.name;
  handle = handle;
  role = other a.role;
  snd_settle_mode = sender_mode a.role a.snd_settle_mode;
  rcv_settle_mode = receiver_mode a.role a.rcv_settle_mode;
  source = source_answer a.source;
  target = target_answer a.target;
  unsettled = None;
  incomplete_unsettled = false;
  initial_delivery_count = first_count a.role;
  max_message_size = largest_message a.role;
  offered_capabilities = [];
  desired_capabilities = [];
  properties = None;
}

-- The answer for a durable link: the router's terminus never expires, it tells which deliveries it holds as unsettled (none), and
-- as a receiver it settles second.
abbrev pub lasting_source : Option SourceTerminus → Option SourceTerminus
lasting_source (Some (source.Source s)) = Some (source.Source (record s { expiry_policy = codes "never"; timeout = 0 }))
lasting_source s = s

abbrev pub lasting_target : Option TargetTerminus → Option TargetTerminus
lasting_target (Some (target.Target x)) = Some (target.Target (record x { expiry_policy = codes "never"; timeout = 0 }))
lasting_target x = x

abbrev pub lasting_by : Role → Attach → Attach
lasting_by Sender a = record a { source = lasting_source a.source; unsettled = Some [] }
lasting_by Receiver a = record a { target = lasting_target a.target; unsettled = Some []; rcv_settle_mode = 1 }

abbrev pub lasting : Attach → Attach
lasting a = if is_durable a.role a then lasting_by a.role a else a

abbrev pub answer_to : Attach → ℕ → Attach
answer_to a handle = lasting (plain_answer a handle)

-- the answer that refuses a link: that of a link which isn't durable, without the terminus at the router's side
abbrev pub refused_source : Role → Option SourceTerminus → Option SourceTerminus
refused_source Sender s = s
refused_source Receiver s = None

abbrev pub refused_target : Role → Option TargetTerminus → Option TargetTerminus
refused_target Sender x = None
refused_target Receiver x = x

abbrev pub refusal_of : Attach → ℕ → Attach
refusal_of a handle = record (plain_answer a handle) { source = refused_source a.role (source_answer a.source); target = refused_target a.role (target_answer a.target) }

abbrev pub attach_item : ℕ → Attach → Item
attach_item own a = frame_on own (perf.Attach a)

-- an item's frame is no longer than the peer accepts
abbrev pub fits : ℕ → Item → Bool
fits largest i = nat_le (length (item_spelling i)) largest

-- a link's flow: the session's counts, and the link's
abbrev pub link_flow : FlowState → LinkState → Flow
link_flow told at = record (session_flow told) { handle = Some at.handle; delivery_count = Some at.count; link_credit = Some at.credit; drain = at.drain }

abbrev pub link_flow_item : ℕ → FlowState → LinkState → Item
link_flow_item own told at = frame_on own (perf.Flow (link_flow told at))
