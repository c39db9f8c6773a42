-- The items that are neither transfers nor dispositions to producers: closes, heartbeats, the flows of windows, and what follows an event's rows except
-- outcomes and deliveries.
use Rattle.std.proofs.Common.{ap, refl, ℕ, zero, suc, ◌+◌, Bool, true, false, not, List, [], ◌∷◌}
use Rattle.std.specs.Prelude.{Option, Some, None, if◌then◌else◌, nat_lt}
use Rattle.amqp_model.specs.declared.perf.Attach.{Attach as AnAttach}
use Rattle.amqp_model.specs.declared.state.DeliveryState.{DeliveryState}
use Rattle.amqp_model.specs.declared.state.UnsettledDelivery.{UnsettledDelivery}
use Rattle.amqp_conn.specs.declared.conn.Conn.{Conn}
use Rattle.amqp_session.specs.Session.{Session}
use Rattle.router_trace.specs.declared.condition.Condition.{Condition}
use Rattle.router_trace.specs.declared.condition.Condition.TheVariants.{FrameSizeTooSmall}
use Rattle.router_trace.specs.declared.handle.Attachment.{Attachment}
use Rattle.router_trace.specs.Trace.{Entry, Put}
use Rattle.router_trace.specs.Connection.{Connection, live}
use Rattle.router_trace.specs.Frames.{closing, told_of}
use Rattle.router_trace.specs.Numbers.{Placed, first_placed, no_rank}
use Rattle.router_trace.specs.Settling.{unbound}
use Rattle.router_trace.specs.Durable.{is_durable}
use Rattle.router_trace.specs.LinkFrames.{attach_item, detach_item, answer_to, refusal_of, fits}
use Rattle.router_trace.specs.Links.{Link, Happened, sends, receives, holder, key_at, numbered, attachments}
use Rattle.router_trace.specs.Peers.{largest_frame}
use Rattle.router_trace.specs.Sessions.{session}
use Rattle.router_trace.specs.Clocks.{terms, written, needs_beat}
use Rattle.router_trace.specs.Following.{link_of, drain_of, drain_on, drain_by, place_drained, drains_due}
use Rattle.state_sessions.specs.Windows.{is_narrow, flow_due, flows_below, windows_over, windows}
use Rattle.state_messages.specs.Messages.{grants_due}
use Rattle.router_state.specs.Tables.{beat_if, beats_over}
use Rattle.reply_rows.specs.declared.answer.Answer.{Answer}
use Rattle.reply_rows.specs.declared.answer.Answer.TheVariants.{Nothing, Header, Open, Close, CloseWith, Begin, End, Flow, Attach, Refuse, Detach, LinkFlow, Taken, Settle}
use Rattle.reply_rows.specs.Rows.{said}
use Rattle.reply_transfers.specs.Transfers.{let_go, ignored_put, settled_answers}
use Rattle.router_reply.specs.Replies.{closing_of, stolen_by, with_map, attach_answer, refused, taken}
use Rattle.router_core.proofs.Granting.{AllGrants, all_grants}
use Rattle.state_connections.proofs.Lists.{by_test}
use Rattle.theorems.proofs.Sound.{is_loud, Quiet, QuietPut, quiet_both, quiet_to}

closing_quiet : (id : List ℕ) (p : Conn) (x : Condition) → Quiet (closing id p x)
closing_quiet id p x = by_test p.opened (λ e. rw e (refl, tt)) (λ e. rw e (refl, (refl, tt)))

pub closing_of_quiet : (id : List ℕ) (v : Option Connection) (x : Condition) → Quiet (closing_of id v x)
closing_of_quiet id None x = tt
closing_of_quiet id (Some v) x = closing_quiet id v.phase x

pub said_quiet : (id : List ℕ) (p : Conn) (a : Answer) → Quiet (said id p a)
said_quiet id p Nothing = tt
said_quiet id p Header = (refl, tt)
said_quiet id p Open = (refl, tt)
said_quiet id p Close = (refl, tt)
said_quiet id p (CloseWith x) = closing_quiet id p x
said_quiet id p (Begin own theirs) = (refl, tt)
said_quiet id p (End own x) = (refl, tt)
said_quiet id p (Flow own told) = (refl, tt)
said_quiet id p (Attach own) = tt
said_quiet id p (Refuse own handle x) = tt
said_quiet id p (Detach own handle closed x) = (refl, tt)
said_quiet id p (LinkFlow own told at) = (refl, tt)
said_quiet id p (Taken own handle) = tt
said_quiet id p (Settle own) = tt

-- an attach that is taken, or refused

stolen_quiet : (x : Option Attachment) → QuietPut (stolen_by x)
stolen_quiet None = tt
stolen_quiet (Some x) = (refl, tt)

sized_quiet : (b : Bool) (own handle : ℕ) (closed : Bool) (e : Condition) (a : AnAttach) → Quiet (if b then attach_item own a ∷ [] else detach_item own handle closed (Some e) ∷ [])
sized_quiet true own handle closed e a = (refl, tt)
sized_quiet false own handle closed e a = (refl, tt)

attach_quiet : (largest own : ℕ) (handle : Option ℕ) (ours : List UnsettledDelivery) (a : AnAttach) → Quiet (attach_answer largest own handle ours a)
attach_quiet largest own None ours a = tt
attach_quiet largest own (Some handle) ours a =
    let answer : AnAttach = with_map ours (answer_to a handle)
    in sized_quiet (fits largest (attach_item own answer)) own handle (not (is_durable answer.role answer)) FrameSizeTooSmall answer

pub taken_quiet : (t : List Entry) (c own : ℕ) (ours : List UnsettledDelivery) (a : AnAttach) → QuietPut (taken t c own ours a)
taken_quiet t c own ours a =
    let older = stolen_by (holder t (key_at t c (answer_to a 0)))
    in quiet_both older _ (stolen_quiet (holder t (key_at t c (answer_to a 0)))) (quiet_to c _ (attach_quiet (largest_frame t c) own _ ours a))

pub refused_quiet : (largest own handle : ℕ) (e : Condition) (a : AnAttach) → Quiet (refused largest own handle e a)
refused_quiet largest own handle e a = by (fits largest (attach_item own (refusal_of a handle)))
  where
    by : (b : Bool) → Quiet (if b then attach_item own (refusal_of a handle) ∷ detach_item own handle true (Some e) ∷ [] else detach_item own handle true (Some e) ∷ [])
    by true = (refl, (refl, tt))
    by false = (refl, tt)

-- a link that is let go, a delivery that is ignored, and dispositions that are answered

pub let_go_quiet : (after : List Entry) (c own handle : ℕ) (x : Condition) → Quiet (let_go after c own handle x)
let_go_quiet after c own handle x = (refl, tt)

pub ignored_quiet : (after : List Entry) (c own handle : ℕ) (q : Option ℕ) → Quiet (ignored_put after c own handle q)
ignored_quiet after c own handle None = tt
ignored_quiet after c own handle (Some id) = by_test (nat_lt 1024 (unbound after c own handle)) (λ e. rw e (refl, tt)) (λ e. rw e tt)

pub settled_quiet : (own : ℕ) (s : Option DeliveryState) (ids : List ℕ) → Quiet (settled_answers own s ids)
settled_quiet own None ids = tt
settled_quiet own (Some s) [] = tt
settled_quiet own (Some s) (id ∷ ids) = (refl, settled_quiet own (Some s) ids)

-- heartbeats, and the flows that restore windows

beat_quiet : (b : Bool) (c : ℕ) → QuietPut (beat_if b c)
beat_quiet true c = (refl, tt)
beat_quiet false c = tt

pub beats_quiet : (t : List Entry) (now : ℕ) (cs : List ℕ) → QuietPut (beats_over t now cs)
beats_quiet t now [] = tt
beats_quiet t now (c ∷ cs) =
    quiet_both (beat_if (needs_beat (terms t c) (written t c) now) c) (beats_over t now cs) (beat_quiet (needs_beat (terms t c) (written t c) now) c) (beats_quiet t now cs)

flow_quiet : (c o : ℕ) (v : Option Session) → QuietPut (flow_due c o v)
flow_quiet c o None = tt
flow_quiet c o (Some h) = by_test (is_narrow h) (λ e. rw e (refl, tt)) (λ e. rw e tt)

below_quiet : (c : ℕ) (known : ℕ → Option Session) (n : ℕ) → QuietPut (flows_below c known n)
unfolding flows_below
below_quiet c known zero = tt
below_quiet c known (suc n) = quiet_both (flows_below c known n) (flow_due c n (known n)) (below_quiet c known n) (flow_quiet c n (known n))

over_quiet : (t : List Entry) (cs : List ℕ) → QuietPut (windows_over t cs)
over_quiet t [] = tt
over_quiet t (c ∷ cs) = quiet_both (flows_below c (session t c) 15) (windows_over t cs) (below_quiet c (session t c) 15) (over_quiet t cs)

pub windows_quiet : (t : List Entry) → QuietPut (windows t)
windows_quiet t = over_quiet t (live t)

-- drains and grants

drained_quiet : (a : Attachment) (s : Option Session) (v : Option Link) → QuietPut (drain_on a s v)
drained_quiet a None v = tt
drained_quiet a (Some s) None = tt
drained_quiet a (Some s) (Some l) = by l.happened
  where
    by : (w : Happened) → QuietPut (drain_of a (told_of s) w)
    by (sends list) = (refl, tt)
    by (receives list) = tt

drain_by_quiet : (t : List Entry) (p : Option Placed) → QuietPut (drain_by t p)
drain_by_quiet t None = tt
drain_by_quiet t (Some p) = drained_quiet p.place (session t p.place.conn.0 p.place.channel) (link_of t p.place)

pub drains_quiet : (t : List Entry) → QuietPut (drains_due t)
drains_quiet t = drain_by_quiet t (first_placed no_rank (attachments t + 1) (λ n. place_drained t n (numbered t n)))

all_granted : (t : List Entry) (ps : List Put) → AllGrants t ps → QuietPut ps
all_granted t [] all = tt
all_granted t (p ∷ ps) all = (ap is_loud all.0.flow, all_granted t ps all.1)

pub grants_quiet : (t : List Entry) → QuietPut (grants_due t)
grants_quiet t = all_granted t (grants_due t) (all_grants t)
