-- A flow of a link is answered, if the peer asks for it, by a flow with the delivery-count that the link has then.
use Rattle.std.proofs.Common.{◌≡◌, ◌∙◌, sym, ap, refl, subst, ℕ, ◌+◌, ◌%◌, ◌^◌, ◌≤◌, ◌<◌, Bool, true, false, ◌&&◌, List, ◌∷◌, arith}
use Rattle.std.specs.Prelude.{Option, Some, None, Result, Ok, Err, is_none, nat_lt, nat_eq, count_by, length, option_map, if◌then◌else◌}
use Rattle.std.proofs.lemmas.Bool.{eq-eqb}
use Rattle.amqp_model.specs.declared.perf.Attach.{Attach as AnAttach}
use Rattle.amqp_model.specs.declared.perf.Begin.{Begin as ABegin}
use Rattle.amqp_model.specs.declared.perf.Detach.{Detach as ADetach}
use Rattle.amqp_model.specs.declared.perf.Disposition.{Disposition as ADisposition}
use Rattle.amqp_model.specs.declared.perf.Flow.{Flow as AFlow}
use Rattle.amqp_model.specs.declared.perf.Open.{Open as AnOpen}
use Rattle.amqp_model.specs.declared.perf.Perf.{Perf}
use Rattle.amqp_model.specs.declared.perf.Perf.TheVariants as perf
use Rattle.amqp_model.specs.declared.perf.Transfer.{Transfer as ATransfer}
use Rattle.amqp_model.specs.declared.item.Item.{Item}
use Rattle.amqp_model.specs.declared.item.Item.TheVariants as item
use Rattle.amqp_conn.specs.declared.conn.Conn.{Conn}
use Rattle.amqp_conn.specs.declared.fault.ConnFault.{ConnFault}
use Rattle.amqp_conn.specs.declared.fault.ConnFault.TheVariants.{ChannelTooHigh}
use Rattle.amqp_conn.specs.Phase.{header_in_turn, open_in_turn, frame_in_turn, close_in_turn}
use Rattle.amqp_session.specs.Serials.{distance}
use Rattle.amqp_session.specs.Session.{Session, TheirFlow, allowance}
use Rattle.amqp_link.specs.Credit.{is_start, tells_count, since, count_told, count, credit}
use Rattle.amqp_link.specs.Credit as credits
use Rattle.amqp_link.specs.Receiving.{Received, delivery_count, unused}
use Rattle.amqp_link.specs.declared.part.Delivery.{Delivery as Told}
use Rattle.book_model.specs.Book.{BookView}
use Rattle.router_trace.specs.declared.channel.PeerChannel.{PeerChannel}
use Rattle.router_trace.specs.declared.channel.PeerChannel.TheVariants as channel
use Rattle.router_trace.specs.declared.condition.Condition.{Condition}
use Rattle.router_trace.specs.declared.condition.Condition.TheVariants.{NotAllowed, TransferLimitExceeded}
use Rattle.router_trace.specs.declared.event.ConnectionId.{ConnectionId}
use Rattle.router_trace.specs.declared.event.Event.{Event}
use Rattle.router_trace.specs.declared.event.Event.TheVariants as event
use Rattle.router_trace.specs.declared.handle.PeerHandle.{PeerHandle}
use Rattle.router_trace.specs.declared.handle.PeerHandle.TheVariants as handle
use Rattle.router_trace.specs.Trace.{Trace, Did, Step}
use Rattle.router_trace.specs.Deliveries.{terminal, tag_in}
use Rattle.router_trace.specs.Settling.{middle_by, middle_on}
use Rattle.router_trace.specs.Links.{Link, LinkPlace, nowhere, detaching, on, on_link, Happened, sends, receives, link, link_at, link_place, link_place_by, their_handle, names, names_by, with_grant, flowed_to, after_their_flow, free_handle, durable_key}
use Rattle.router_trace.specs.Sessions as sessions
use Rattle.router_trace.specs.Sessions.{theirs, place, place_by, on_session, session, maps, flow_state}
use Rattle.reply_rows.specs.declared.answer.Answer.{Answer}
use Rattle.reply_rows.specs.declared.answer.Answer.TheVariants.{End, Detach, Attach, LinkFlow, Taken}
use Rattle.reply_rows.specs.Acts.{answer_of, full_at, found_journal}
use Rattle.reply_rows.specs.Booking.{attach_unless, booked_attach, book_refusal, booked_transfer, booked_perf, booked, repeats}
use Rattle.reply_rows.specs.Finding.{finds}
use Rattle.reply_rows.specs.LinkRows.{refusal, attach_or, attach_at, session_detach_reply, link_echo, is_reached, detach_for, link_flow_reply, is_anonymous, is_among, delivery_by, delivery_on, is_unattached, link_transfer_reply, asks, flow_on as link_flow_on}
use Rattle.reply_rows.specs.Rows.{answering, Finds, Links, header_by, open_by, out_of_turn, close_by, begin_by, begin_reply, end_reply, echo, flow_on, flow_reply, attach_reply, transfer_reply, detach_reply, disposition_reply, in_turn, turn_by, perf_reply, item_reply}
use Rattle.state_connections.proofs.Lists.{by_test}
use Rattle.theorems.specs.Credit.{counts_on, counts_within}

-- the flow of an answer tells a count that its link may have
abbrev Known : Type 0
Known = ℕ → ℕ → Option Link

abbrev pub Tells : Known → Answer → Type 0
Tells known (LinkFlow own told at) = counts_within (Some at.count) (known own at.handle)
Tells known _ = Unit {0}

-- a link's own count is one

distance_itself : (n : ℕ) → n < 2 ^ 32 → distance n n ≡ 0
distance_itself n small = grind arith

none_far : (d k : ℕ) → d ≡ 0 → d ≤ k
none_far d k e = omega (arith, e)

below : (n : ℕ) → n % 2 ^ 32 < 2 ^ 32
below n = omega arith

pub count_small : (list : credits.Link) → count list < 2 ^ 32
count_small list = below (count_told list + count_by is_start (since tells_count list))

own_count : (w : Happened) (list : credits.Link) → w ≡ sends list → counts_on (Some (count list)) w
own_count w list is =
    subst (λ (x : Happened). counts_on (Some (count list)) x) (sym is)
    (none_far (distance (count list) (count list)) (credit list) (distance_itself (count list) (count_small list)))

-- the link of a flow's handle, after it

record IsNamed (t : Trace) (s : Step) (c own h : ℕ) (f : AFlow) (l : Link) : Type 0 where
  after : link (Did s ∷ t) c own h ≡ Some (after_their_flow f l)

comes : (t : Trace) (s : Step) (d : ConnectionId) (n : ℕ) (f : AFlow) (payload : List ℕ) (own k h : ℕ) (l : Link) → s.event ≡ event.Item d (item.Frame false n (perf.Flow f) payload)
    → theirs t d.0 n ≡ Some (channel.Mapped own) → f.handle ≡ Some k → their_handle t d.0 own k ≡ Some (handle.Mapped h) → link t d.0 own h ≡ Some l
    → IsNamed t s d.0 own h f l
comes t s d n f payload own k h l is on_channel named on_handle there = record {
  after = ap (λ (e : Event). link_at e d.0 own h (theirs t d.0) (their_handle t d.0 own) (link t d.0 own h)) is ∙ heard ∙ ap (option_map (after_their_flow f)) there;
}
  where
    mapped : maps (theirs t d.0 n) own ≡ true
    mapped = ap (λ (v : Option PeerChannel). maps v own) on_channel ∙ eq-eqb own own refl

    names_it : names_by f.handle (their_handle t d.0 own) h ≡ true
    names_it =
        ap (λ (v : Option ℕ). names_by v (their_handle t d.0 own) h) named
        ∙ ap (λ (v : Option PeerHandle). names v h) on_handle ∙ eq-eqb h h refl

    heard : link_at (event.Item d (item.Frame false n (perf.Flow f) payload)) d.0 own h (theirs t d.0) (their_handle t d.0 own) (link t d.0 own h)
        ≡ option_map (after_their_flow f) (link t d.0 own h)
    heard = rw (eq-eqb d.0 d.0 refl, mapped, names_it) refl

-- what is answered on it

on_it : (t : Trace) (s : Step) (c own h : ℕ) (f : AFlow) (l : Link) (x : Session) → IsNamed t s c own h f l → Tells (link (Did s ∷ t) c) (link_flow_on own x h l.durable l.happened f)
on_it t s c own h f l x named = by l.happened refl
  where
    here : (n : ℕ) → counts_on (Some n) (after_their_flow f l).happened → counts_within (Some n) (link (Did s ∷ t) c own h)
    here n counts = subst (λ (v : Option Link). counts_within (Some n) v) (sym named.after) counts

    sending : (wanted : Bool) (list : credits.Link) → l.happened ≡ sends list
        → Tells (link (Did s ∷ t) c) (link_echo wanted own x h (count (with_grant f f.link_credit list)) (credit (with_grant f f.link_credit list)))
    sending false list is = tt
    sending true list is =
        here (count (with_grant f f.link_credit list))
        (own_count (after_their_flow f l).happened (with_grant f f.link_credit list) (ap (flowed_to f) is))

    receiving : (wanted : Bool) (n left : ℕ) (list : Received) → l.happened ≡ receives list → Tells (link (Did s ∷ t) c) (link_echo wanted own x h n left)
    receiving false n left list is = tt
    receiving true n left list is = here n (subst (λ (w : Happened). counts_on (Some n) (flowed_to f w)) (sym is) tt)

    by : (w : Happened) → l.happened ≡ w → Tells (link (Did s ∷ t) c) (link_flow_on own x h l.durable w f)
    by (sends list) is = sending f.echo list is
    by (receives list) is = by_test (is_reached f.delivery_count (delivery_count list) (unused list))
        (λ e. rw e (receiving f.echo _ _ list is))
        (λ e. rw e tt)

-- a flow

asked_for : (known : Known) (wanted : Bool) (own : ℕ) (x : Session) → Tells known (echo wanted own x)
asked_for known true own x = tt
asked_for known false own x = tt

flow_told : (t : Trace) (s : Step) (d : ConnectionId) (n : ℕ) (f : AFlow) (payload : List ℕ) → s.event ≡ event.Item d (item.Frame false n (perf.Flow f) payload)
    → Tells (link (Did s ∷ t) d.0) (flow_reply (place t d.0 n) (link_place t d.0) f)
flow_told t s d n f payload is = by_channel (theirs t d.0 n) refl
  where
    by_link : (own k h : ℕ) (x : Session) (v : Option Link) → theirs t d.0 n ≡ Some (channel.Mapped own) → f.handle ≡ Some k → their_handle t d.0 own k ≡ Some (handle.Mapped h)
        → link t d.0 own h ≡ v → Tells (link (Did s ∷ t) d.0) (link_flow_reply own x (on_link h v) f)
    by_link own k h x None on_channel named on_handle there = tt
    by_link own k h x (Some l) on_channel named on_handle there =
        on_it t s d.0 own h f l (TheirFlow (flow_state f) ∷ x) (comes t s d n f payload own k h l is on_channel named on_handle there)

    by_place : (own k : ℕ) (x : Session) (v : Option PeerHandle) → theirs t d.0 n ≡ Some (channel.Mapped own) → f.handle ≡ Some k → their_handle t d.0 own k ≡ v
        → Tells (link (Did s ∷ t) d.0) (link_flow_reply own x (link_place_by v (link t d.0 own)) f)
    by_place own k x None on_channel named on_handle = tt
    by_place own k x (Some handle.Detaching) on_channel named on_handle = tt
    by_place own k x (Some (handle.Mapped h)) on_channel named on_handle = by_link own k h x (link t d.0 own h) on_channel named on_handle refl

    by_handle : (own : ℕ) (x : Session) (v : Option ℕ) → theirs t d.0 n ≡ Some (channel.Mapped own) → f.handle ≡ v
        → Tells (link (Did s ∷ t) d.0) (flow_on own x (link_place t d.0 own) f v)
    by_handle own x None on_channel named = asked_for (link (Did s ∷ t) d.0) f.echo own (TheirFlow (flow_state f) ∷ x)
    by_handle own x (Some k) on_channel named = by_place own k x (their_handle t d.0 own k) on_channel named refl

    by_session : (own : ℕ) (v : Option Session) → theirs t d.0 n ≡ Some (channel.Mapped own)
        → Tells (link (Did s ∷ t) d.0) (flow_reply (on_session own v) (link_place t d.0) f)
    by_session own None on_channel = tt
    by_session own (Some x) on_channel = by_handle own x f.handle on_channel refl

    by_channel : (v : Option PeerChannel) → theirs t d.0 n ≡ v → Tells (link (Did s ∷ t) d.0) (flow_reply (place_by v (session t d.0)) (link_place t d.0) f)
    by_channel None on_channel = tt
    by_channel (Some channel.Ending) on_channel = tt
    by_channel (Some (channel.Mapped own)) on_channel = by_session own (session t d.0 own) on_channel

-- No other frame is answered by a flow of a link.

header_told : (known : Known) (r : Result (Unit {0}) ConnFault) → Tells known (header_by r)
header_told known (Ok q) = tt
header_told known (Err f) = tt

open_told : (known : Known) (x : AnOpen) (r : Result (Unit {0}) ConnFault) → Tells known (open_by x r)
open_told known x (Ok q) = by_test (nat_lt 1024 (length x.container_id)) (λ e. rw e tt) (λ e. rw e tt)
open_told known x (Err f) = tt

out_told : (known : Known) (f : ConnFault) → Tells known (out_of_turn f)
out_told known ChannelTooHigh = tt
out_told known _ = tt

close_told : (known : Known) (r : Result (Unit {0}) ConnFault) → Tells known (close_by r)
close_told known (Ok q) = tt
close_told known (Err f) = out_told known f

begin_told : (known : Known) (at : sessions.Place) (free : Option ℕ) (awaits : ℕ → Bool) (n : ℕ) (x : ABegin) → Tells known (begin_reply at free awaits n x)
begin_told known sessions.nowhere free awaits n x = by free x.remote_channel
  where
    answers : (q : Bool) → Tells known (answering q)
    answers true = tt
    answers false = tt

    by : (free m : Option ℕ) → Tells known (begin_by n free awaits m)
    by free (Some own) = answers (awaits own)
    by None None = tt
    by (Some own) None = tt
begin_told known sessions.ending free awaits n x = tt
begin_told known (sessions.on own h) free awaits n x = tt

end_told : (known : Known) (at : sessions.Place) → Tells known (end_reply at)
end_told known sessions.nowhere = tt
end_told known sessions.ending = tt
end_told known (sessions.on own h) = tt

disposition_told : (known : Known) (at : sessions.Place) (x : ADisposition) → Tells known (disposition_reply at x)
disposition_told known sessions.nowhere x = tt
disposition_told known sessions.ending x = tt
disposition_told known (sessions.on own h) x = by_test (asks x.role x.settled (terminal x.state)) (λ e. rw e tt) (λ e. rw e tt)

attach_told : (known : Known) (at : sessions.Place) (links : Links) (free : ℕ → Option ℕ) (a : AnAttach) → Tells known (attach_reply at links free a)
attach_told known sessions.nowhere links free a = tt
attach_told known sessions.ending links free a = tt
attach_told known (sessions.on own h) links free a = by_test (nat_lt 63 a.handle) (λ e. rw e tt) (λ e. rw e (by (links own a.handle) (free own)))
  where
    refused : (k : ℕ) (x : Option Condition) → Tells known (attach_or x own k)
    refused k (Some x) = tt
    refused k None = tt

    by : (at : LinkPlace) (v : Option ℕ) → Tells known (attach_at own at v a)
    by nowhere None = tt
    by nowhere (Some k) = refused k (refusal a)
    by detaching v = tt
    by (on k l) v = tt

detach_told : (known : Known) (at : sessions.Place) (links : Links) (x : ADetach) → Tells known (detach_reply at links x)
detach_told known sessions.nowhere links x = tt
detach_told known sessions.ending links x = tt
detach_told known (sessions.on own h) links x = by (links own x.handle)
  where
    by : (at : LinkPlace) → Tells known (session_detach_reply own at x)
    by nowhere = tt
    by detaching = tt
    by (on k l) = tt

transfer_told : (known : Known) (at : sessions.Place) (links : Links) (claimed : ℕ → ℕ → Bool) (x : ATransfer) → Tells known (transfer_reply at links claimed x)
transfer_told known sessions.nowhere links claimed x = tt
transfer_told known sessions.ending links claimed x = tt
transfer_told known (sessions.on own h) links claimed x =
    by_test (is_unattached (links own x.handle)) (λ e. rw e tt) (λ e. rw e (by_test (nat_eq (allowance h) 0) (λ g. rw g tt) (λ g. rw g (by (links own x.handle)))))
  where
    starts : (k : ℕ) (durable anonymous again none : Bool) → Tells known (if anonymous then detach_for own k durable NotAllowed
        else if again then End own (Some NotAllowed) else if none then detach_for own k durable TransferLimitExceeded else Taken own k)
    starts k durable true again none = tt
    starts k durable false true none = tt
    starts k durable false false true = tt
    starts k durable false false false = tt

    continues : (k : ℕ) (durable q : Bool) → Tells known (if q then Taken own k else detach_for own k durable NotAllowed)
    continues k durable true = tt
    continues k durable false = tt

    delivers : (k : ℕ) (durable : Bool) (n : ℕ) (first : Option Told) → Tells known (delivery_by own k durable n (claimed own) first x)
    delivers k durable n None = starts k durable (is_anonymous x) (is_among (claimed own) x.delivery_id) (nat_eq n 0)
    delivers k durable n (Some first) = continues k durable _

    carries : (k : ℕ) (durable : Bool) (w : Happened) → Tells known (delivery_on own k durable (claimed own) w x)
    carries k durable (sends list) = tt
    carries k durable (receives list) = delivers k durable (unused list) (middle_by (receives list))

    by : (at : LinkPlace) → Tells known (link_transfer_reply own (claimed own) at x)
    by nowhere = tt
    by detaching = tt
    by (on k l) = carries k l.durable l.happened

-- any frame

turn_told : (known : Known) (q : Finds) (n : ℕ) (body : Perf) (r : Result (Unit {0}) ConnFault) → Tells known (in_turn q n body) → Tells known (turn_by q n body r)
turn_told known q n body (Ok u) here = here
turn_told known q n body (Err f) here = out_told known f

perf_told : (t : Trace) (s : Step) (d : ConnectionId) (n : ℕ) (body : Perf) (payload : List ℕ) (p : Conn) → s.event ≡ event.Item d (item.Frame false n body payload)
    → Tells (link (Did s ∷ t) d.0) (perf_reply p (finds t d.0) n body)
perf_told t s d n body payload p is = by body is
  where
    turned : (body : Perf) → Tells (link (Did s ∷ t) d.0) (in_turn (finds t d.0) n body) → Tells (link (Did s ∷ t) d.0) (turn_by (finds t d.0) n body (frame_in_turn n p))
    turned body here = turn_told (link (Did s ∷ t) d.0) (finds t d.0) n body (frame_in_turn n p) here

    by : (body : Perf) → s.event ≡ event.Item d (item.Frame false n body payload) → Tells (link (Did s ∷ t) d.0) (perf_reply p (finds t d.0) n body)
    by (perf.Open x) is = open_told (link (Did s ∷ t) d.0) x (open_in_turn x p)
    by (perf.Begin x) is = turned (perf.Begin x) (begin_told (link (Did s ∷ t) d.0) (place t d.0 n) (finds t d.0).free_channel (finds t d.0).awaits n x)
    by (perf.Attach x) is = turned (perf.Attach x) (attach_told (link (Did s ∷ t) d.0) (place t d.0 n) (link_place t d.0) (finds t d.0).free_handle x)
    by (perf.Flow x) is = turned (perf.Flow x) (flow_told t s d n x payload is)
    by (perf.Transfer x) is = turned (perf.Transfer x) (transfer_told (link (Did s ∷ t) d.0) (place t d.0 n) (link_place t d.0) (finds t d.0).claimed x)
    by (perf.Disposition x) is = turned (perf.Disposition x) (disposition_told (link (Did s ∷ t) d.0) (place t d.0 n) x)
    by (perf.Detach x) is = turned (perf.Detach x) (detach_told (link (Did s ∷ t) d.0) (place t d.0 n) (link_place t d.0) x)
    by (perf.End x) is = turned (perf.End x) (end_told (link (Did s ∷ t) d.0) (place t d.0 n))
    by (perf.Close x) is = close_told (link (Did s ∷ t) d.0) (close_in_turn n p)
    by (perf.SaslMechanisms x) is = turned (perf.SaslMechanisms x) tt
    by (perf.SaslInit x) is = turned (perf.SaslInit x) tt
    by (perf.SaslChallenge x) is = turned (perf.SaslChallenge x) tt
    by (perf.SaslResponse x) is = turned (perf.SaslResponse x) tt
    by (perf.SaslOutcome x) is = turned (perf.SaslOutcome x) tt

reply_told : (t : Trace) (s : Step) (d : ConnectionId) (i : Item) (p : Conn) → s.event ≡ event.Item d i → Tells (link (Did s ∷ t) d.0) (item_reply p (finds t d.0) i)
reply_told t s d (item.Header x y z w) p is = header_told (link (Did s ∷ t) d.0) (header_in_turn p)
reply_told t s d (item.Frame true n body payload) p is = tt
reply_told t s d (item.Frame false n body payload) p is = perf_told t s d n body payload p is
reply_told t s d (item.Beat n) p is = by_test (nat_lt 14 n) (λ e. rw e tt) (λ e. rw e tt)
reply_told t s d (item.Bad f) p is = tt

-- also if the book stands in the way

attach_booked : (known : Known) (free : ℕ → Option ℕ) (refusal : Option Condition) (a : Answer) → Tells known a → Tells known (booked_attach free refusal a)
attach_booked known free refusal (Attach own) told = by (free own) refusal
  where
    by : (v : Option ℕ) (r : Option Condition) → Tells known (attach_unless own v r)
    by v None = tt
    by None (Some x) = tt
    by (Some k) (Some x) = tt
attach_booked known free refusal _ told = told

transfer_booked : (known : Known) (book : BookView) (t : Trace) (c : ℕ) (x : ATransfer) (a : Answer) → Tells known a → Tells known (booked_transfer book t c x a)
transfer_booked known book t c x (Taken own k) told =
    by (is_none (middle_on (link_place t c own x.handle)) && repeats book t c own k x.resume (durable_key (link t c own k)) (tag_in x))
  where
    by : (q : Bool) → Tells known (if q then Detach own k false (Some NotAllowed) else Taken own k)
    by true = tt
    by false = tt
transfer_booked known book t c x _ told = told

perf_booked : (known : Known) (full : Bool) (book : BookView) (t : Trace) (c : ℕ) (body : Perf) (a : Answer) → Tells known a → Tells known (booked_perf full book t c body a)
perf_booked known full book t c (perf.Attach x) a told = attach_booked known (free_handle t c) (book_refusal full book t c x) a told
perf_booked known full book t c (perf.Transfer x) a told = transfer_booked known book t c x a told
perf_booked known full book t c _ a told = told

item_booked : (known : Known) (full : Bool) (book : BookView) (t : Trace) (c : ℕ) (i : Item) (a : Answer) → Tells known a → Tells known (booked full book t c i a)
item_booked known full book t c (item.Frame sasl n body payload) a told = perf_booked known full book t c body a told
item_booked known full book t c _ a told = told

-- the answer to an item tells a count of its link, as it is after the item's entry
pub answer_told : (t : Trace) (s : Step) (d : ConnectionId) (i : Item) (p : Conn) → s.event ≡ event.Item d i → Tells (link (Did s ∷ t) d.0) (answer_of t d.0 p i)
answer_told t s d i p is =
    item_booked (link (Did s ∷ t) d.0) (full_at t (event.Item (record { 0 = d.0 }) i)) (found_journal t).book t d.0 i (item_reply p (finds t d.0) i) (reply_told t s d i p is)
