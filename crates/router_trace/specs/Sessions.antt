-- The sessions of a connection in a trace (AMQP 1.0 part 2, section 2.5.1): a begin of the peer and the router's begin that answers it
-- make one, or a begin of the router and the peer's that answers it, on a channel of the router and one of the peer.
use Rattle.std.specs.Prelude.{ℕ, Bool, false, ◌==◌, nat_eq, nat_le, if◌then◌else◌, is_none, is_some, true, List, ◌∷◌, [], Option, Some, None, option_map}
use Rattle.std.specs.List.{find}
use Rattle.amqp_model.specs.declared.perf.Begin.{Begin}
use Rattle.amqp_model.specs.declared.perf.Flow.{Flow}
use Rattle.amqp_model.specs.declared.perf.Perf.{Perf}
use Rattle.amqp_model.specs.declared.perf.Perf.TheVariants as perf
use Rattle.amqp_model.specs.declared.item.Item.{Item}
use Rattle.amqp_model.specs.declared.item.Item.TheVariants as item
use Rattle.amqp_session.specs.declared.states.BeginState.{BeginState}
use Rattle.amqp_session.specs.declared.states.FlowState.{FlowState}
use Rattle.amqp_session.specs.Session.{Session, OurBegin, TheirBegin, OurFlow, TheirFlow, OurTransfer, TheirTransfer, allowance}
use Rattle.router_trace.specs.declared.event.Event.{Event}
use Rattle.router_trace.specs.declared.event.Event.TheVariants as event
use Rattle.router_trace.specs.declared.channel.PeerChannel.{PeerChannel}
use Rattle.router_trace.specs.declared.channel.PeerChannel.TheVariants.{Mapped, Ending}
use Rattle.router_trace.specs.Routed.{passed_to, if_passed}
use Rattle.router_trace.specs.Trace.{Did, Out, Took, Bound, Booked, Routed, Began, Trace}

-- what a begin and a flow say of their sender's end
abbrev pub begin_state : Begin → BeginState
begin_state b = record { next_outgoing = b.next_outgoing_id; incoming_window = b.incoming_window }

abbrev pub flow_state : Flow → FlowState
flow_state f = record { next_incoming = f.next_incoming_id; incoming_window = f.incoming_window; next_outgoing = f.next_outgoing_id }

-- The last begin received on a connection; none if the connection is closed or lost.
abbrev pub offered_in : Perf → Option BeginState → Option BeginState
offered_in (perf.Begin b) last = Some (begin_state b)
offered_in _ last = last

abbrev pub offered_by : Item → Option BeginState → Option BeginState
offered_by (item.Frame sasl channel body payload) last = if sasl then last else offered_in body last
offered_by _ last = last

abbrev pub offered_at : Event → ℕ → Option BeginState → Option BeginState
offered_at (event.Item d i) c last = if d.0 == c then offered_by i last else last
offered_at (event.Down d) c last = if d.0 == c then None else last
offered_at _ c last = last

-- what a close removes
abbrev pub unless_close_in : {A : Type 0} → Perf → Option A → Option A
unless_close_in (perf.Close x) v = None
unless_close_in _ v = v

abbrev pub unless_close : {A : Type 0} → Item → Option A → Option A
unless_close (item.Frame sasl channel body payload) v = unless_close_in body v
unless_close _ v = v

abbrev pub offered : Trace → ℕ → Option BeginState
offered [] c = None
offered (Did s ∷ t) c = offered_at s.event c (offered t c)
offered (Out d i ∷ t) c = if d == c then unless_close i (offered t c) else offered t c
offered (Took d n ∷ t) c = offered t c
offered (Bound b ∷ t) c = offered t c
offered (Booked acts full ∷ t) c = offered t c
offered (Routed passage ∷ t) c = offered t c
offered (Began g ∷ t) c = None

-- the peer's channel stands for the session on this channel of the router
abbrev pub maps : Option PeerChannel → ℕ → Bool
maps (Some (Mapped own)) o = own == o
maps _ o = false

-- the router's channel of the session that the peer's channel stands for, if it stands for one
abbrev pub own_of : Option PeerChannel → Option ℕ
own_of None = None
own_of (Some Ending) = None
own_of (Some (Mapped own)) = Some own

abbrev pub is_channel : Option ℕ → ℕ → Bool
is_channel None p = false
is_channel (Some channel) p = channel == p

-- A performative answers the router's begin on a channel: it is a begin that names that channel, the router's begin there awaits an
-- answer, and nothing is on the channel of the peer on which it came.
abbrev pub names_own : Begin → ℕ → Option PeerChannel → Bool
names_own b o here = if is_channel b.remote_channel o then is_none here else false

abbrev pub answers_begin : Perf → ℕ → Option PeerChannel → Option BeginState → Bool
answers_begin (perf.Begin b) o here asked = if names_own b o here then is_some asked else false
answers_begin _ o here asked = false

abbrev pub answers_item : Item → ℕ → (ℕ → Option PeerChannel) → Option BeginState → Bool
answers_item (item.Frame sasl channel body payload) o known asked = if sasl then false else answers_begin body o (known channel) asked
answers_item _ o known asked = false

-- What a begin of the router that answers none says of its end, until the peer's begin answers it: its channel is taken meanwhile, and
-- there is no session. None if no begin on this channel awaits an answer.
abbrev pub awaited_by : Item → ℕ → (ℕ → Option PeerChannel) → Option BeginState → Option BeginState
awaited_by (item.Frame sasl channel body payload) o known v = if sasl then v else (if answers_begin body o (known channel) v then None else v)
awaited_by _ o known v = v

abbrev pub awaited_at : Event → ℕ → ℕ → (ℕ → Option PeerChannel) → Option BeginState → Option BeginState
awaited_at (event.Item d i) c o known v = if d.0 == c then awaited_by i o known v else v
awaited_at (event.Down d) c o known v = if d.0 == c then None else v
awaited_at _ c o known v = v

abbrev pub unless_answering : Begin → Option BeginState
unless_answering b = if is_none b.remote_channel then Some (begin_state b) else None

abbrev pub awaited_after_perf : Perf → ℕ → ℕ → Option BeginState → Option BeginState
awaited_after_perf (perf.Begin b) own o v = if own == o then unless_answering b else v
awaited_after_perf (perf.End x) own o v = if own == o then None else v
awaited_after_perf (perf.Close x) own o v = None
awaited_after_perf _ own o v = v

abbrev pub awaited_after : Item → ℕ → Option BeginState → Option BeginState
awaited_after (item.Frame sasl own body payload) o v = awaited_after_perf body own o v
awaited_after _ o v = v

-- The peer's channel of the session on a channel of the router: that of the begin which the router's begin answers, or of the begin that
-- answers the router's.
abbrev pub answered_from : Item → ℕ → (ℕ → Option PeerChannel) → Option BeginState → Option ℕ → Option ℕ
answered_from (item.Frame sasl channel body payload) o known asked p =
    if sasl then p else (if answers_begin body o (known channel) asked then Some channel else p)
answered_from _ o known asked p = p

abbrev pub answered_at : Event → ℕ → ℕ → (ℕ → Option PeerChannel) → Option BeginState → Option ℕ → Option ℕ
answered_at (event.Item d i) c o known asked p = if d.0 == c then answered_from i o known asked p else p
answered_at (event.Down d) c o known asked p = if d.0 == c then None else p
answered_at _ c o known asked p = p

abbrev pub answered_by_perf : Perf → ℕ → ℕ → Option ℕ → Option ℕ
answered_by_perf (perf.Begin b) own o p = if own == o then b.remote_channel else p
answered_by_perf (perf.End x) own o p = if own == o then None else p
answered_by_perf (perf.Close x) own o p = None
answered_by_perf _ own o p = p

abbrev pub answered_by : Item → ℕ → Option ℕ → Option ℕ
answered_by (item.Frame sasl own body payload) o p = answered_by_perf body own o p
answered_by _ o p = p

-- What a peer's channel stands for: a session, on a channel of the router; one that the router ended, until the peer's
-- end; or nothing.
abbrev pub mapped_by : Option ℕ → (ℕ → Option BeginState) → Option PeerChannel → Option PeerChannel
mapped_by None asked v = v
mapped_by (Some own) asked (Some here) = Some here
mapped_by (Some own) asked None = if is_some (asked own) then Some (Mapped own) else None

abbrev pub theirs_in : Perf → ℕ → ℕ → (ℕ → Option BeginState) → Option PeerChannel → Option PeerChannel
theirs_in (perf.Begin b) channel p asked v = if channel == p then mapped_by b.remote_channel asked v else v
theirs_in (perf.End x) channel p asked v = if channel == p then None else v
theirs_in _ channel p asked v = v

abbrev pub theirs_by : Item → ℕ → (ℕ → Option BeginState) → Option PeerChannel → Option PeerChannel
theirs_by (item.Frame sasl channel body payload) p asked v = if sasl then v else theirs_in body channel p asked v
theirs_by _ p asked v = v

abbrev pub theirs_at : Event → ℕ → ℕ → (ℕ → Option BeginState) → Option PeerChannel → Option PeerChannel
theirs_at (event.Item d i) c p asked v = if d.0 == c then theirs_by i p asked v else v
theirs_at (event.Down d) c p asked v = if d.0 == c then None else v
theirs_at _ c p asked v = v

abbrev pub theirs_after_perf : Perf → ℕ → ℕ → (ℕ → Option ℕ) → Option PeerChannel → Option PeerChannel
theirs_after_perf (perf.Begin b) own p known v = if is_channel b.remote_channel p then Some (Mapped own) else v
theirs_after_perf (perf.End x) own p known v = if is_channel (known own) p then option_map (λ w. Ending) v else v
theirs_after_perf (perf.Close x) own p known v = None
theirs_after_perf _ own p known v = v

abbrev pub theirs_after : Item → ℕ → (ℕ → Option ℕ) → Option PeerChannel → Option PeerChannel
theirs_after (item.Frame sasl own body payload) p known v = theirs_after_perf body own p known v
theirs_after _ p known v = v

abbrev mutual
  pub awaited : Trace → ℕ → ℕ → Option BeginState
  awaited [] c o = None
  awaited (Did s ∷ t) c o = awaited_at s.event c o (theirs t c) (awaited t c o)
  awaited (Out d i ∷ t) c o = if d == c then awaited_after i o (awaited t c o) else awaited t c o
  awaited (Took d n ∷ t) c o = awaited t c o
  awaited (Bound b ∷ t) c o = awaited t c o
  awaited (Booked acts full ∷ t) c o = awaited t c o
  awaited (Routed passage ∷ t) c o = awaited t c o
  awaited (Began g ∷ t) c o = None

  pub answered_channel : Trace → ℕ → ℕ → Option ℕ
  answered_channel [] c o = None
  answered_channel (Did s ∷ t) c o = answered_at s.event c o (theirs t c) (awaited t c o) (answered_channel t c o)
  answered_channel (Out d i ∷ t) c o = if d == c then answered_by i o (answered_channel t c o) else answered_channel t c o
  answered_channel (Took d n ∷ t) c o = answered_channel t c o
  answered_channel (Bound b ∷ t) c o = answered_channel t c o
  answered_channel (Booked acts full ∷ t) c o = answered_channel t c o
  answered_channel (Routed passage ∷ t) c o = answered_channel t c o
  answered_channel (Began g ∷ t) c o = None

  pub theirs : Trace → ℕ → ℕ → Option PeerChannel
  theirs [] c p = None
  theirs (Did s ∷ t) c p = theirs_at s.event c p (awaited t c) (theirs t c p)
  theirs (Out d i ∷ t) c p = if d == c then theirs_after i p (answered_channel t c) (theirs t c p) else theirs t c p
  theirs (Took d n ∷ t) c p = theirs t c p
  theirs (Bound b ∷ t) c p = theirs t c p
  theirs (Booked acts full ∷ t) c p = theirs t c p
  theirs (Routed passage ∷ t) c p = theirs t c p
  theirs (Began g ∷ t) c p = None

-- the router's channel of the session on a peer's channel
abbrev pub session_on : Trace → ℕ → ℕ → Option ℕ
session_on t c channel = own_of (theirs t c channel)

-- What happened on the session of a router's channel, from its begins on; none if no session is on it. A transfer
-- beyond the incoming window that the peer was granted is not counted.
abbrev pub with_transfer : Session → Session
with_transfer h = if nat_eq (allowance h) 0 then h else TheirTransfer ∷ h

abbrev pub heard_in : Perf → Session → Session
heard_in (perf.Flow f) h = TheirFlow (flow_state f) ∷ h
heard_in (perf.Transfer x) h = with_transfer h
heard_in _ h = h

-- the session that a begin of the peer makes, if it answers the router's
abbrev pub answered_begin : Perf → Option BeginState → Option Session
answered_begin (perf.Begin b) (Some ours) = Some (OurBegin ours ∷ TheirBegin (begin_state b) ∷ [])
answered_begin _ asked = None

abbrev pub heard_by : Item → ℕ → (ℕ → Option PeerChannel) → Option BeginState → Option Session → Option Session
heard_by (item.Frame sasl channel body payload) o known asked v =
    if sasl then v
    else (if answers_begin body o (known channel) asked then answered_begin body asked
    else (if maps (known channel) o then option_map (heard_in body) v else v))
heard_by _ o known asked v = v

abbrev pub session_at : Event → ℕ → ℕ → (ℕ → Option PeerChannel) → Option BeginState → Option Session → Option Session
session_at (event.Item d i) c o known asked v = if d.0 == c then heard_by i o known asked v else v
session_at (event.Down d) c o known asked v = if d.0 == c then None else v
session_at _ c o known asked v = v

-- the session that a begin of the router makes, if it answers the peer's begin
abbrev pub begun : Option BeginState → Begin → Option Session
begun None ours = None
begun (Some theirs) ours = if is_none ours.remote_channel then None else Some (OurBegin (begin_state ours) ∷ TheirBegin theirs ∷ [])

abbrev pub after_perf : Perf → ℕ → ℕ → Option BeginState → Option Session → Option Session
after_perf (perf.Begin b) own o asked v = if own == o then begun asked b else v
after_perf (perf.Flow f) own o asked v = if own == o then option_map (λ h. OurFlow (flow_state f) ∷ h) v else v
after_perf (perf.Transfer x) own o asked v = if own == o then option_map (λ h. OurTransfer ∷ h) v else v
after_perf (perf.End x) own o asked v = if own == o then None else v
after_perf (perf.Close x) own o asked v = None
after_perf _ own o asked v = v

abbrev pub after_item : Item → ℕ → Option BeginState → Option Session → Option Session
after_item (item.Frame sasl own body payload) o asked v = after_perf body own o asked v
after_item _ o asked v = v

abbrev pub session : Trace → ℕ → ℕ → Option Session
session [] c o = None
session (Did s ∷ t) c o = session_at s.event c o (theirs t c) (awaited t c o) (session t c o)
session (Out d i ∷ t) c o = if d == c then after_item i o (offered t c) (session t c o) else session t c o
session (Took d n ∷ t) c o = session t c o
session (Bound b ∷ t) c o = session t c o
session (Booked acts full ∷ t) c o = session t c o
session (Routed passage ∷ t) c o = if_passed (λ i v. after_item i o (offered t c) v) (passed_to passage c) (session t c o)
session (Began g ∷ t) c o = None

-- What is on a peer's channel: nothing, a session that the router ended, or a session, on a channel of the router.
pub data Place : Type 0 where
  nowhere : Place
  ending : Place
  on : (own : ℕ) (session : Session) → Place

abbrev pub on_session : ℕ → Option Session → Place
on_session own None = nowhere
on_session own (Some h) = on own h

abbrev pub place_by : Option PeerChannel → (ℕ → Option Session) → Place
place_by None known = nowhere
place_by (Some Ending) known = ending
place_by (Some (Mapped own)) known = on_session own (known own)

abbrev pub place : Trace → ℕ → ℕ → Place
place t c p = place_by (theirs t c p) (session t c)

-- The channels that the router accepts, and the lowest of them that the peer accepts too and that is free: it has no session, and no
-- begin of the router on it awaits an answer.
abbrev pub channels : List ℕ
channels = 0 ∷ 1 ∷ 2 ∷ 3 ∷ 4 ∷ 5 ∷ 6 ∷ 7 ∷ 8 ∷ 9 ∷ 10 ∷ 11 ∷ 12 ∷ 13 ∷ 14 ∷ []

abbrev pub is_free : ℕ → (ℕ → Option Session) → (ℕ → Option BeginState) → ℕ → Bool
is_free channel_max known asked o = if nat_le o channel_max then (if is_none (known o) then is_none (asked o) else false) else false

unfoldable pub free_channel : Trace → ℕ → ℕ → Option ℕ
free_channel t c channel_max = find (is_free channel_max (session t c) (awaited t c)) channels
