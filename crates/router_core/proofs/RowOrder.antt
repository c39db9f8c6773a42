-- Each row of the reply table keeps the order on a live connection.
use Rattle.std.proofs.Common.{◌≡◌, ◌∙◌, sym, ap, refl, subst, ℕ, Bool, true, false, List, [], ◌∷◌}
use Rattle.std.specs.Prelude.{◌&&◌, nat_lt, nat_le, nat_eq, if◌then◌else◌, is_some, is_none, length, Option, Some, None, Result, Ok, Err}
use Rattle.std.specs.List.{find}
use Rattle.amqp_model.specs.declared.perf.Attach.{Attach as AnAttach}
use Rattle.amqp_model.specs.declared.perf.Begin.{Begin as ABegin}
use Rattle.amqp_model.specs.declared.perf.Detach.{Detach as ADetach}
use Rattle.amqp_model.specs.declared.perf.Disposition.{Disposition as ADisposition}
use Rattle.amqp_model.specs.declared.perf.Transfer.{Transfer as ATransfer}
use Rattle.amqp_model.specs.declared.perf.Flow.{Flow as AFlow}
use Rattle.amqp_model.specs.declared.perf.Open.{Open as AnOpen}
use Rattle.amqp_model.specs.declared.perf.Perf.{Perf}
use Rattle.amqp_model.specs.declared.perf.Perf.TheVariants as perf
use Rattle.amqp_model.specs.declared.item.Item.{Item}
use Rattle.amqp_model.specs.declared.item.Item.TheVariants as item
use Rattle.amqp_conn.specs.declared.conn.Conn.{Conn}
use Rattle.amqp_conn.specs.declared.fault.ConnFault.{ConnFault}
use Rattle.amqp_conn.specs.declared.fault.ConnFault.TheVariants.{ChannelTooHigh}
use Rattle.amqp_conn.specs.Phase.{frame_in_turn, open_in_turn}
use Rattle.book_model.specs.Book.{BookView}
use Rattle.amqp_session.specs.declared.states.BeginState.{BeginState}
use Rattle.amqp_session.specs.Session.{Session, TheirFlow, allowance}
use Rattle.router_trace.specs.declared.channel.PeerChannel.{PeerChannel}
use Rattle.router_trace.specs.declared.channel.PeerChannel.TheVariants.{Mapped, Ending}
use Rattle.amqp_link.specs.declared.part.Delivery.{Delivery as Told}
use Rattle.router_trace.specs.declared.condition.Condition.{Condition}
use Rattle.router_trace.specs.declared.condition.Condition.TheVariants.{NotAllowed, TransferLimitExceeded}
use Rattle.router_trace.specs.declared.event.Event.TheVariants as event
use Rattle.router_trace.specs.Deliveries.{terminal, tag_in}
use Rattle.router_trace.specs.Settling.{middle_by, middle_on}
use Rattle.router_trace.specs.Trace.{Entry}
use Rattle.router_trace.specs.Frames.{closing}
use Rattle.router_trace.specs.Order.{Written, have_turns}
use Rattle.router_trace.specs.Sessions.{Place, nowhere, ending, on, on_session, place_by, session, awaited, is_free, free_channel, channels, offered_by, unless_close, begin_state, flow_state}
use Rattle.state_connections.proofs.Lists.{by_test}
use Rattle.reply_rows.specs.declared.answer.Answer.{Answer}
use Rattle.reply_rows.specs.declared.answer.Answer.TheVariants.{Nothing, Header, Open, Close, CloseWith, Begin, End, Flow, Attach, Refuse, Detach, LinkFlow, Taken, Settle}
use Rattle.reply_rows.specs.Rows.{Finds, Links, said, header_reply, open_by, open_reply, begin_by, begin_reply, end_reply, echo, flow_on, flow_reply, attach_reply, transfer_reply, detach_reply, disposition_reply, close_by, close_reply, in_turn, turn_by, perf_reply, item_reply}
use Rattle.reply_rows.specs.LinkRows.{refusal, attach_or, attach_at, session_attach_reply, session_detach_reply, link_echo, is_reached, detach_for, link_flow_reply, is_anonymous, asks, is_among, start_on, delivery_by, delivery_on, link_transfer_reply, is_unattached, session_transfer_reply, flow_on as link_flow_on}
use Rattle.reply_rows.specs.Finding.{finds}
use Rattle.reply_rows.specs.Booking.{attach_unless, booked_attach, repeats, booked_transfer, booked_perf, booked, book_refusal}
use Rattle.reply_rows.specs.Acts.{found_journal, full_at, answer_of}
use Rattle.amqp_link.specs.Receiving.{delivery_count, unused}
use Rattle.router_trace.specs.Links.{link, link_place, durable_key, free_handle, LinkPlace, nowhere as no_link, detaching, on as on_link, Happened, sends, receives}

-- a live phase
abbrev pub open_phase : Bool → Bool → Conn
open_phase h o = record { header = h; opened = o; closed = false }

pub phase_is : (p : Conn) → p.closed ≡ false → p ≡ open_phase p.header p.opened
phase_is p live = ap (λ (b : Bool). record_of p.header p.opened b) live
  where
    record_of : Bool → Bool → Bool → Conn
    record_of h o b = record { header = h; opened = o; closed = b }

-- what was written, by its parts
abbrev pub written_of : Conn → (ℕ → Bool) → Written
written_of p b = record { phase = p; begun = b }

-- a begin of the router stands on a channel: that of a session, or one that awaits the peer's
abbrev pub has_begun : Option Session → Option BeginState → Bool
has_begun None asked = is_some asked
has_begun (Some h) asked = true

-- the router's begin answers one of the peer, or asks for one
abbrev pub perf_is_offered : Perf → Option BeginState → Type 0
perf_is_offered (perf.Begin x) asked = (if is_none x.remote_channel then true else is_some asked) ≡ true
perf_is_offered _ asked = Unit {0}

abbrev pub IsOffered : Item → Option BeginState → Type 0
IsOffered (item.Frame sasl own body payload) asked = perf_is_offered body asked
IsOffered _ asked = Unit {0}

abbrev pub AreOffered : List Item → Option BeginState → Type 0
AreOffered [] asked = Unit {0}
AreOffered (i ∷ is) asked = IsOffered i asked × AreOffered is (unless_close i asked)

-- an answer fits what was written, and the peer's last begin
abbrev pub AnswerFits : Conn → (ℕ → Bool) → Option BeginState → Answer → Type 0
AnswerFits p b asked Nothing = Unit {0}
AnswerFits p b asked Header = p.header ≡ false
AnswerFits p b asked Open = p.opened ≡ false
AnswerFits p b asked Close = p.opened ≡ true
AnswerFits p b asked (CloseWith x) = Unit {0}
AnswerFits p b asked (Begin own theirs) = (p.opened ≡ true) × (b own ≡ false) × (is_some asked ≡ true)
AnswerFits p b asked (End own x) = (p.opened ≡ true) × (b own ≡ true)
AnswerFits p b asked (Flow own told) = (p.opened ≡ true) × (b own ≡ true)
AnswerFits p b asked (Attach own) = (p.opened ≡ true) × (b own ≡ true)
AnswerFits p b asked (Refuse own handle x) = (p.opened ≡ true) × (b own ≡ true)
AnswerFits p b asked (Detach own handle closed x) = (p.opened ≡ true) × (b own ≡ true)
AnswerFits p b asked (LinkFlow own told at) = (p.opened ≡ true) × (b own ≡ true)
AnswerFits p b asked (Taken own handle) = (p.opened ≡ true) × (b own ≡ true)
AnswerFits p b asked (Settle own) = (p.opened ≡ true) × (b own ≡ true)

-- the items of an answer that fits may be written in their order
pub closing_turns : (id : List ℕ) (h o : Bool) (b : ℕ → Bool) (x : Condition) → have_turns (written_of (open_phase h o) b) (closing id (open_phase h o) x) ≡ true
closing_turns id h true b x = refl
closing_turns id h false b x = refl

said_turns_at : (id : List ℕ) (h o : Bool) (b : ℕ → Bool) (asked : Option BeginState) (a : Answer) → AnswerFits (open_phase h o) b asked a
    → have_turns (written_of (open_phase h o) b) (said id (open_phase h o) a) ≡ true
said_turns_at id h o b asked Nothing fits = refl
said_turns_at id h o b asked Header fits = rw fits refl
said_turns_at id h o b asked Open fits = rw fits refl
said_turns_at id h o b asked Close fits = rw fits refl
said_turns_at id h o b asked (CloseWith x) fits = closing_turns id h o b x
said_turns_at id h o b asked (Begin own theirs) fits = rw (fits.0, fits.1) refl
said_turns_at id h o b asked (End own x) fits = rw (fits.0, fits.1) refl
said_turns_at id h o b asked (Flow own told) fits = rw (fits.0, fits.1) refl
said_turns_at id h o b asked (Attach own) fits = refl
said_turns_at id h o b asked (Refuse own handle x) fits = refl
said_turns_at id h o b asked (Detach own handle closed x) fits = rw (fits.0, fits.1) refl
said_turns_at id h o b asked (LinkFlow own told at) fits = rw (fits.0, fits.1) refl
said_turns_at id h o b asked (Taken own handle) fits = refl
said_turns_at id h o b asked (Settle own) fits = refl

pub said_turns : (id : List ℕ) (p : Conn) (b : ℕ → Bool) (asked : Option BeginState) (a : Answer) → p.closed ≡ false → AnswerFits p b asked a
    → have_turns (written_of p b) (said id p a) ≡ true
said_turns id p b asked a live =
    subst (λ (q : Conn). AnswerFits q b asked a → have_turns (written_of q b) (said id q a) ≡ true) (sym (phase_is p live))
    (said_turns_at id p.header p.opened b asked a)

-- its begins are answers
pub closing_offered : (id : List ℕ) (p : Conn) (x : Condition) (asked : Option BeginState) → AreOffered (closing id p x) asked
closing_offered id p x asked = by_test p.opened (λ e. rw e (tt, tt)) (λ e. rw e (tt, (tt, tt)))

pub said_offered : (id : List ℕ) (p : Conn) (b : ℕ → Bool) (asked : Option BeginState) (a : Answer) → AnswerFits p b asked a → AreOffered (said id p a) asked
said_offered id p b asked Nothing fits = tt
said_offered id p b asked Header fits = (tt, tt)
said_offered id p b asked Open fits = (tt, tt)
said_offered id p b asked Close fits = (tt, tt)
said_offered id p b asked (CloseWith x) fits = closing_offered id p x asked
said_offered id p b asked (Begin own theirs) fits = (fits.2, tt)
said_offered id p b asked (End own x) fits = (tt, tt)
said_offered id p b asked (Flow own told) fits = (tt, tt)
said_offered id p b asked (Attach own) fits = tt
said_offered id p b asked (Refuse own handle x) fits = tt
said_offered id p b asked (Detach own handle closed x) fits = (tt, tt)
said_offered id p b asked (LinkFlow own told at) fits = (tt, tt)
said_offered id p b asked (Taken own handle) fits = tt
said_offered id p b asked (Settle own) fits = tt

-- what is on a channel of the peer, and the free channel, fit what was written
abbrev pub PlaceFits : Place → (ℕ → Bool) → Type 0
PlaceFits (on own h) b = b own ≡ true
PlaceFits _ b = Unit {0}

abbrev pub FreeFits : Option ℕ → (ℕ → Bool) → Type 0
FreeFits None b = Unit {0}
FreeFits (Some own) b = b own ≡ false

pub place_fits : (v : Option PeerChannel) (known : ℕ → Option Session) (asked : ℕ → Option BeginState) (b : ℕ → Bool)
    → ((o : ℕ) → b o ≡ has_begun (known o) (asked o)) → PlaceFits (place_by v known) b
place_fits None known asked b same = tt
place_fits (Some Ending) known asked b same = tt
place_fits (Some (Mapped own)) known asked b same = on_fits (known own) (same own)
  where
    on_fits : (v : Option Session) → b own ≡ has_begun v (asked own) → PlaceFits (on_session own v) b
    on_fits None e = tt
    on_fits (Some h) e = e

find_fits : (max : ℕ) (known : ℕ → Option Session) (asked : ℕ → Option BeginState) (b : ℕ → Bool)
    → ((o : ℕ) → b o ≡ has_begun (known o) (asked o)) → (xs : List ℕ) → FreeFits (find (is_free max known asked) xs) b
find_fits max known asked b same [] = tt
find_fits max known asked b same (x ∷ xs) =
    by_test (is_free max known asked x)
    (λ e. rw e (same x ∙ none_there (nat_le x max) (known x) (asked x) e))
    (λ e. rw e (find_fits max known asked b same xs))
  where
    none_there : (c : Bool) (v : Option Session) (w : Option BeginState)
        → (if c then (if is_none v then is_none w else false) else false) ≡ true → has_begun v w ≡ false
    none_there true None None h = refl
    none_there true None (Some s) h = sym h
    none_there true (Some s) w h = sym h
    none_there false v w h = absurd cc

pub free_fits : (t : List Entry) (c max : ℕ) (b : ℕ → Bool) → ((o : ℕ) → b o ≡ has_begun (session t c o) (awaited t c o)) → FreeFits (free_channel t c max) b
unfolding free_channel
free_fits t c max b same = find_fits max (session t c) (awaited t c) b same channels

-- each row's answer fits

header_fits : (h o : Bool) (b : ℕ → Bool) (asked : Option BeginState) → AnswerFits (open_phase h o) b asked (header_reply (open_phase h o))
header_fits true o b asked = tt
header_fits false o b asked = refl

open_fits : (h o : Bool) (b : ℕ → Bool) (asked : Option BeginState) (x : AnOpen) → AnswerFits (open_phase h o) b asked (open_reply (open_phase h o) x)
open_fits h true b asked x = tt
open_fits h false b asked x =
    by_test (nat_lt x.max_frame_size 512)
    (λ e. rw e tt)
    (λ e. by_test (nat_lt 1024 (length x.container_id)) (λ f. rw (e, f) tt) (λ f. rw (e, f) refl))

begin_fits : (h : Bool) (b : ℕ → Bool) (asked : Option BeginState) (at : Place) (free : Option ℕ) (awaits : ℕ → Bool) (theirs : ℕ) (x : ABegin)
    → PlaceFits at b → FreeFits free b → is_some asked ≡ true → AnswerFits (open_phase h true) b asked (begin_reply at free awaits theirs x)
begin_fits h b asked nowhere free awaits theirs x place room some = by free x.remote_channel room
  where
    answers : (q : Bool) → AnswerFits (open_phase h true) b asked (if q then Nothing else CloseWith NotAllowed)
    answers true = tt
    answers false = tt

    by : (free m : Option ℕ) → FreeFits free b → AnswerFits (open_phase h true) b asked (begin_by theirs free awaits m)
    by free (Some own) room = answers (awaits own)
    by None None room = tt
    by (Some own) None room = (refl, room, some)
begin_fits h b asked ending free awaits theirs x place room some = tt
begin_fits h b asked (on own s) free awaits theirs x place room some = tt

end_fits : (h : Bool) (b : ℕ → Bool) (asked : Option BeginState) (at : Place) → PlaceFits at b → AnswerFits (open_phase h true) b asked (end_reply at)
end_fits h b asked nowhere place = tt
end_fits h b asked ending place = tt
end_fits h b asked (on own s) place = (refl, place)

disposition_fits : (h : Bool) (b : ℕ → Bool) (asked : Option BeginState) (at : Place) (x : ADisposition) → PlaceFits at b
    → AnswerFits (open_phase h true) b asked (disposition_reply at x)
disposition_fits h b asked nowhere x place = tt
disposition_fits h b asked ending x place = tt
disposition_fits h b asked (on own s) x place = by (asks x.role x.settled (terminal x.state))
  where
    by : (q : Bool) → AnswerFits (open_phase h true) b asked (if q then Settle own else Nothing)
    by true = (refl, place)
    by false = tt

-- the rows of links, on a session
abbrev SessionFits : Bool → (ℕ → Bool) → Option BeginState → Answer → Type 0
SessionFits h b asked a = AnswerFits (open_phase h true) b asked a

attach_or_fits : (h : Bool) (b : ℕ → Bool) (asked : Option BeginState) (own handle : ℕ) (x : Option Condition) → b own ≡ true → SessionFits h b asked (attach_or x own handle)
attach_or_fits h b asked own handle (Some x) begun = (refl, begun)
attach_or_fits h b asked own handle None begun = (refl, begun)

session_attach_fits : (h : Bool) (b : ℕ → Bool) (asked : Option BeginState) (own : ℕ) (at : LinkPlace) (free : Option ℕ) (a : AnAttach) → b own ≡ true
    → SessionFits h b asked (session_attach_reply own at free a)
session_attach_fits h b asked own at free a begun = by_test (nat_lt 63 a.handle) (λ e. rw e tt) (λ e. rw e (by at free))
  where
    by : (at : LinkPlace) (free : Option ℕ) → SessionFits h b asked (attach_at own at free a)
    by no_link None = (refl, begun)
    by no_link (Some handle) = attach_or_fits h b asked own handle (refusal a) begun
    by detaching free = tt
    by (on_link k l) free = (refl, begun)

session_detach_fits : (h : Bool) (b : ℕ → Bool) (asked : Option BeginState) (own : ℕ) (at : LinkPlace) (x : ADetach) → b own ≡ true
    → SessionFits h b asked (session_detach_reply own at x)
session_detach_fits h b asked own no_link x begun = (refl, begun)
session_detach_fits h b asked own detaching x begun = tt
session_detach_fits h b asked own (on_link k l) x begun = (refl, begun)

link_echo_fits : (h : Bool) (b : ℕ → Bool) (asked : Option BeginState) (q : Bool) (own : ℕ) (s : Session) (handle count left : ℕ) → b own ≡ true
    → SessionFits h b asked (link_echo q own s handle count left)
link_echo_fits h b asked true own s handle count left begun = (refl, begun)
link_echo_fits h b asked false own s handle count left begun = tt

link_flow_fits : (h : Bool) (b : ℕ → Bool) (asked : Option BeginState) (own : ℕ) (s : Session) (at : LinkPlace) (f : AFlow) → b own ≡ true
    → SessionFits h b asked (link_flow_reply own s at f)
link_flow_fits h b asked own s no_link f begun = (refl, begun)
link_flow_fits h b asked own s detaching f begun = tt
link_flow_fits h b asked own s (on_link k l) f begun = by l.happened
  where
    by : (w : Happened) → SessionFits h b asked (link_flow_on own (TheirFlow (flow_state f) ∷ s) k l.durable w f)
    by (sends list) = link_echo_fits h b asked f.echo own (TheirFlow (flow_state f) ∷ s) k _ _ begun
    by (receives list) = by_test (is_reached f.delivery_count (delivery_count list) (unused list))
        (λ e. rw e (link_echo_fits h b asked f.echo own (TheirFlow (flow_state f) ∷ s) k _ _ begun))
        (λ e. rw e (refl, begun))

start_fits : (h : Bool) (b : ℕ → Bool) (asked : Option BeginState) (own handle : ℕ) (durable : Bool) (left : ℕ) (claimed : ℕ → Bool) (x : ATransfer) → b own ≡ true
    → SessionFits h b asked (start_on own handle durable left claimed x)
start_fits h b asked own handle durable left claimed x begun = by (is_anonymous x) (is_among claimed x.delivery_id) (nat_eq left 0)
  where
    by : (anonymous again none : Bool) → SessionFits h b asked (if anonymous then detach_for own handle durable NotAllowed
        else if again then End own (Some NotAllowed) else if none then detach_for own handle durable TransferLimitExceeded else Taken own handle)
    by true again none = (refl, begun)
    by false true none = (refl, begun)
    by false false true = (refl, begun)
    by false false false = (refl, begun)

continue_fits : (h : Bool) (b : ℕ → Bool) (asked : Option BeginState) (own handle : ℕ) (durable q : Bool) → b own ≡ true
    → SessionFits h b asked (if q then Taken own handle else detach_for own handle durable NotAllowed)
continue_fits h b asked own handle durable true begun = (refl, begun)
continue_fits h b asked own handle durable false begun = (refl, begun)

delivery_fits : (h : Bool) (b : ℕ → Bool) (asked : Option BeginState) (own handle : ℕ) (durable : Bool) (left : ℕ) (claimed : ℕ → Bool) (first : Option Told) (x : ATransfer) → b own ≡ true
    → SessionFits h b asked (delivery_by own handle durable left claimed first x)
delivery_fits h b asked own handle durable left claimed None x begun = start_fits h b asked own handle durable left claimed x begun
delivery_fits h b asked own handle durable left claimed (Some first) x begun = continue_fits h b asked own handle durable _ begun

session_transfer_fits : (h : Bool) (b : ℕ → Bool) (asked : Option BeginState) (own : ℕ) (s : Session) (claimed : ℕ → Bool) (at : LinkPlace) (x : ATransfer) → b own ≡ true
    → SessionFits h b asked (session_transfer_reply own s claimed at x)
session_transfer_fits h b asked own s claimed at x begun =
    by_test (is_unattached at) (λ e. rw e (refl, begun))
    (λ e. rw e (by_test (nat_eq (allowance s) 0) (λ f. rw f (refl, begun)) (λ f. rw f (by at))))
  where
    carried : (k : ℕ) (durable : Bool) (w : Happened) → SessionFits h b asked (delivery_on own k durable claimed w x)
    carried k durable (sends list) = (refl, begun)
    carried k durable (receives list) = delivery_fits h b asked own k durable (unused list) claimed (middle_by (receives list)) x begun

    by : (at : LinkPlace) → SessionFits h b asked (link_transfer_reply own claimed at x)
    by no_link = (refl, begun)
    by detaching = tt
    by (on_link k l) = carried k l.durable l.happened

-- the same by what is on the frame's channel
attach_fits : (h : Bool) (b : ℕ → Bool) (asked : Option BeginState) (at : Place) (links : Links) (free : ℕ → Option ℕ) (a : AnAttach) → PlaceFits at b
    → SessionFits h b asked (attach_reply at links free a)
attach_fits h b asked nowhere links free a place = tt
attach_fits h b asked ending links free a place = tt
attach_fits h b asked (on own s) links free a place = session_attach_fits h b asked own (links own a.handle) (free own) a place

detach_fits : (h : Bool) (b : ℕ → Bool) (asked : Option BeginState) (at : Place) (links : Links) (x : ADetach) → PlaceFits at b → SessionFits h b asked (detach_reply at links x)
detach_fits h b asked nowhere links x place = tt
detach_fits h b asked ending links x place = tt
detach_fits h b asked (on own s) links x place = session_detach_fits h b asked own (links own x.handle) x place

transfer_fits : (h : Bool) (b : ℕ → Bool) (asked : Option BeginState) (at : Place) (links : Links) (claimed : ℕ → ℕ → Bool) (x : ATransfer) → PlaceFits at b
    → SessionFits h b asked (transfer_reply at links claimed x)
transfer_fits h b asked nowhere links claimed x place = tt
transfer_fits h b asked ending links claimed x place = tt
transfer_fits h b asked (on own s) links claimed x place = session_transfer_fits h b asked own s (claimed own) (links own x.handle) x place

flow_fits : (h : Bool) (b : ℕ → Bool) (asked : Option BeginState) (at : Place) (links : Links) (f : AFlow) → PlaceFits at b → SessionFits h b asked (flow_reply at links f)
flow_fits h b asked nowhere links f place = tt
flow_fits h b asked ending links f place = tt
flow_fits h b asked (on own s) links f place = by f.handle
  where
    wanted : (q : Bool) → SessionFits h b asked (echo q own (TheirFlow (flow_state f) ∷ s))
    wanted true = (refl, place)
    wanted false = tt

    by : (handle : Option ℕ) → SessionFits h b asked (flow_on own s (links own) f handle)
    by None = wanted f.echo
    by (Some handle) = link_flow_fits h b asked own s (links own handle) f place

-- on an open connection or not
turn_fits : (h o : Bool) (b : ℕ → Bool) (asked : Option BeginState) (k : Finds) (channel : ℕ) (body : Perf)
    → AnswerFits (open_phase h true) b asked (in_turn k channel body)
    → AnswerFits (open_phase h o) b asked (turn_by k channel body (frame_in_turn channel (open_phase h o)))
turn_fits h false b asked k channel body here = tt
turn_fits h true b asked k channel body here = by_channel (nat_lt 14 channel)
  where
    by_channel : (q : Bool) → AnswerFits (open_phase h true) b asked (turn_by k channel body (if q then Err ChannelTooHigh else Ok tt))
    by_channel true = tt
    by_channel false = here

-- a close ends an open connection
close_fits : (h o : Bool) (b : ℕ → Bool) (asked : Option BeginState) (channel : ℕ) → AnswerFits (open_phase h o) b asked (close_reply (open_phase h o) channel)
close_fits h false b asked channel = tt
close_fits h true b asked channel = by_channel (nat_lt 14 channel)
  where
    by_channel : (q : Bool) → AnswerFits (open_phase h true) b asked (close_by (if q then Err ChannelTooHigh else Ok tt))
    by_channel true = tt
    by_channel false = refl

-- what an item finds fits what was written
pub record FindsFit (k : Finds) (b : ℕ → Bool) : Type 0 where
  pub places : (n : ℕ) → PlaceFits (k.places n) b
  pub room : FreeFits k.free_channel b

perf_fits : (h o : Bool) (b : ℕ → Bool) (asked : Option BeginState) (k : Finds) (payload : List ℕ) (channel : ℕ) (body : Perf) → FindsFit k b
    → AnswerFits (open_phase h o) b (offered_by (item.Frame false channel body payload) asked) (perf_reply (open_phase h o) k channel body)
perf_fits h o b asked k payload channel (perf.Open x) found = open_fits h o b asked x
perf_fits h o b asked k payload channel (perf.Begin x) found =
    turn_fits h o b (Some (begin_state x)) k channel (perf.Begin x)
    (begin_fits h b (Some (begin_state x)) (k.places channel) k.free_channel k.awaits channel x (found.places channel) found.room refl)
perf_fits h o b asked k payload channel (perf.Attach x) found =
    turn_fits h o b asked k channel (perf.Attach x) (attach_fits h b asked (k.places channel) k.links k.free_handle x (found.places channel))
perf_fits h o b asked k payload channel (perf.Flow x) found =
    turn_fits h o b asked k channel (perf.Flow x) (flow_fits h b asked (k.places channel) k.links x (found.places channel))
perf_fits h o b asked k payload channel (perf.Transfer x) found =
    turn_fits h o b asked k channel (perf.Transfer x) (transfer_fits h b asked (k.places channel) k.links k.claimed x (found.places channel))
perf_fits h o b asked k payload channel (perf.Disposition x) found =
    turn_fits h o b asked k channel (perf.Disposition x) (disposition_fits h b asked (k.places channel) x (found.places channel))
perf_fits h o b asked k payload channel (perf.Detach x) found =
    turn_fits h o b asked k channel (perf.Detach x) (detach_fits h b asked (k.places channel) k.links x (found.places channel))
perf_fits h o b asked k payload channel (perf.End x) found =
    turn_fits h o b asked k channel (perf.End x) (end_fits h b asked (k.places channel) (found.places channel))
perf_fits h o b asked k payload channel (perf.Close x) found = close_fits h o b asked channel
perf_fits h o b asked k payload channel (perf.SaslMechanisms x) found = turn_fits h o b asked k channel (perf.SaslMechanisms x) tt
perf_fits h o b asked k payload channel (perf.SaslInit x) found = turn_fits h o b asked k channel (perf.SaslInit x) tt
perf_fits h o b asked k payload channel (perf.SaslChallenge x) found = turn_fits h o b asked k channel (perf.SaslChallenge x) tt
perf_fits h o b asked k payload channel (perf.SaslResponse x) found = turn_fits h o b asked k channel (perf.SaslResponse x) tt
perf_fits h o b asked k payload channel (perf.SaslOutcome x) found = turn_fits h o b asked k channel (perf.SaslOutcome x) tt

item_fits : (h o : Bool) (b : ℕ → Bool) (asked : Option BeginState) (k : Finds) (i : Item) → FindsFit k b
    → AnswerFits (open_phase h o) b (offered_by i asked) (item_reply (open_phase h o) k i)
item_fits h o b asked k (item.Header x y z w) found = header_fits h o b asked
item_fits h o b asked k (item.Frame true channel body payload) found = tt
item_fits h o b asked k (item.Frame false channel body payload) found = perf_fits h o b asked k payload channel body found
item_fits h o b asked k (item.Beat channel) found = by_test (nat_lt 14 channel) (λ e. rw e tt) (λ e. rw e tt)
item_fits h o b asked k (item.Bad f) found = tt

pub reply_fits : (p : Conn) (b : ℕ → Bool) (asked : Option BeginState) (k : Finds) (i : Item) → p.closed ≡ false → FindsFit k b
    → AnswerFits p b (offered_by i asked) (item_reply p k i)
reply_fits p b asked k i live found =
    subst (λ (q : Conn). AnswerFits q b (offered_by i asked) (item_reply q k i)) (sym (phase_is p live))
    (item_fits p.header p.opened b asked k i found)

-- the peer's open is answered by the router's, or by a close
abbrev pub Opens : Answer → Type 0
Opens Open = Unit {0}
Opens (CloseWith x) = Unit {0}
Opens _ = ⊥

pub open_opens : (p : Conn) (x : AnOpen) → Opens (open_reply p x)
open_opens p x = by (open_in_turn x p)
  where
    by : (r : Result (Unit {0}) ConnFault) → Opens (open_by x r)
    by (Ok q) = by_test (nat_lt 1024 (length x.container_id)) (λ e. rw e tt) (λ e. rw e tt)
    by (Err f) = tt

-- also if the book stands in the way of a link, or of a delivery on one
unless_fits : (p : Conn) (b : ℕ → Bool) (asked : Option BeginState) (own : ℕ) (free : Option ℕ) (refusal : Option Condition) → (p.opened ≡ true) × (b own ≡ true)
    → AnswerFits p b asked (attach_unless own free refusal)
unless_fits p b asked own free None fits = fits
unless_fits p b asked own None (Some x) fits = fits
unless_fits p b asked own (Some handle) (Some x) fits = fits

attach_booked_fits : (p : Conn) (b : ℕ → Bool) (asked : Option BeginState) (free : ℕ → Option ℕ) (refusal : Option Condition) (a : Answer) → AnswerFits p b asked a
    → AnswerFits p b asked (booked_attach free refusal a)
attach_booked_fits p b asked free refusal (Attach own) fits = unless_fits p b asked own (free own) refusal fits
attach_booked_fits p b asked free refusal _ fits = fits

transfer_booked_fits : (p : Conn) (b : ℕ → Bool) (asked : Option BeginState) (book : BookView) (t : List Entry) (c : ℕ) (x : ATransfer) (a : Answer) → AnswerFits p b asked a
    → AnswerFits p b asked (booked_transfer book t c x a)
transfer_booked_fits p b asked book t c x (Taken own handle) fits =
    by (is_none (middle_on (link_place t c own x.handle)) && repeats book t c own handle x.resume (durable_key (link t c own handle)) (tag_in x))
  where
    by : (q : Bool) → AnswerFits p b asked (if q then Detach own handle false (Some NotAllowed) else Taken own handle)
    by true = fits
    by false = fits
transfer_booked_fits p b asked book t c x _ fits = fits

perf_booked_fits : (p : Conn) (b : ℕ → Bool) (asked : Option BeginState) (full : Bool) (book : BookView) (t : List Entry) (c : ℕ) (body : Perf) (a : Answer) → AnswerFits p b asked a
    → AnswerFits p b asked (booked_perf full book t c body a)
perf_booked_fits p b asked full book t c (perf.Attach x) a fits = attach_booked_fits p b asked (free_handle t c) (book_refusal full book t c x) a fits
perf_booked_fits p b asked full book t c (perf.Transfer x) a fits = transfer_booked_fits p b asked book t c x a fits
perf_booked_fits p b asked full book t c _ a fits = fits

booked_fits : (p : Conn) (b : ℕ → Bool) (asked : Option BeginState) (full : Bool) (book : BookView) (t : List Entry) (c : ℕ) (i : Item) (a : Answer) → AnswerFits p b asked a
    → AnswerFits p b asked (booked full book t c i a)
booked_fits p b asked full book t c (item.Frame sasl channel body payload) a fits = perf_booked_fits p b asked full book t c body a fits
booked_fits p b asked full book t c _ a fits = fits

pub answer_fits : (t : List Entry) (c : ℕ) (p : Conn) (b : ℕ → Bool) (asked : Option BeginState) (i : Item) → p.closed ≡ false → FindsFit (finds t c) b
    → AnswerFits p b (offered_by i asked) (answer_of t c p i)
answer_fits t c p b asked i live found =
    booked_fits p b (offered_by i asked) (full_at t (event.Item (record { 0 = c }) i)) (found_journal t).book t c i (item_reply p (finds t c) i)
    (reply_fits p b asked (finds t c) i live found)
