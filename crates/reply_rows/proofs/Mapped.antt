-- A transfer is taken on the session that its channel stands for.
use Rattle.std.proofs.Common.{◌≡◌, refl, ℕ, Bool, true, false, List, ◌∷◌}
use Rattle.std.specs.Prelude.{nat_lt, nat_eq, length, is_none, ◌&&◌, Option, Some, None, Result, Ok, Err, option_map}
use Rattle.std.proofs.lemmas.Bool.{eq-eqb}
use Rattle.amqp_model.specs.declared.perf.Attach.{Attach as AnAttach}
use Rattle.amqp_model.specs.declared.perf.Begin.{Begin as ABegin}
use Rattle.amqp_model.specs.declared.perf.Detach.{Detach as ADetach}
use Rattle.amqp_model.specs.declared.perf.Disposition.{Disposition as ADisposition}
use Rattle.amqp_model.specs.declared.perf.Transfer.{Transfer as ATransfer}
use Rattle.amqp_model.specs.declared.perf.Flow.{Flow as AFlow}
use Rattle.amqp_model.specs.declared.perf.Open.{Open as AnOpen}
use Rattle.amqp_model.specs.declared.perf.Perf.{Perf}
use Rattle.amqp_model.specs.declared.perf.Perf.TheVariants as perf
use Rattle.amqp_model.specs.declared.item.Item.{Item}
use Rattle.amqp_model.specs.declared.item.Item.TheVariants as item
use Rattle.amqp_conn.specs.declared.conn.Conn.{Conn}
use Rattle.amqp_conn.specs.declared.fault.ConnFault.{ConnFault}
use Rattle.amqp_conn.specs.declared.fault.ConnFault.TheVariants.{ChannelTooHigh}
use Rattle.amqp_conn.specs.Phase.{frame_in_turn, header_in_turn, open_in_turn, close_in_turn}
use Rattle.amqp_link.specs.declared.part.Delivery.{Delivery as Told}
use Rattle.amqp_link.specs.Receiving.{delivery_count, unused}
use Rattle.router_trace.specs.Deliveries.{terminal, tag_in}
use Rattle.state_connections.proofs.Lists.{by_test}
use Rattle.amqp_session.specs.Session.{Session, TheirFlow, allowance}
use Rattle.router_trace.specs.declared.channel.PeerChannel.{PeerChannel}
use Rattle.router_trace.specs.declared.channel.PeerChannel.TheVariants.{Mapped, Ending}
use Rattle.router_trace.specs.declared.condition.Condition.{Condition}
use Rattle.router_trace.specs.Trace.{Entry}
use Rattle.router_trace.specs.Sessions.{Place, nowhere, ending, on, on_session, place_by, session, theirs, maps, flow_state}
use Rattle.router_trace.specs.Links.{link, link_place, durable_key, free_handle, LinkPlace, nowhere as no_link, detaching, on as on_link, Happened, sends, receives}
use Rattle.router_trace.specs.Settling.{middle_by, middle_on}
use Rattle.state_links.specs.Fits.{channel_of}
use Rattle.reply_rows.specs.declared.answer.Answer.{Answer}
use Rattle.reply_rows.specs.declared.answer.Answer.TheVariants.{Taken, Attach}
use Rattle.reply_rows.specs.Rows.{Finds, Links, header_by, open_by, begin_by, begin_reply, end_reply, echo, flow_on, flow_reply, attach_reply, transfer_reply, detach_reply, disposition_reply, in_turn, out_of_turn, close_by, turn_by, perf_reply, item_reply}
use Rattle.reply_rows.specs.LinkRows.{refusal, attach_or, attach_at, session_detach_reply, link_echo, is_reached, link_flow_reply, is_anonymous, is_among, is_same_id, is_same_tag, is_unattached, asks, delivery_by, delivery_on, link_transfer_reply, flow_on as link_flow_on}
use Rattle.reply_rows.specs.Finding.{finds}
use Rattle.reply_rows.specs.Booking.{attach_unless, booked_attach, repeats, booked_transfer, booked_perf, booked, book_refusal, answer_at}
use Rattle.book_model.specs.Book.{BookView}

-- if a transfer is taken, this stands for its session
abbrev pub IsHere : (ℕ → Bool) → Answer → Type 0
IsHere here (Taken own handle) = here own ≡ true
IsHere here _ = Unit {0}

-- what is on a channel of the peer
abbrev PlaceIsHere : (ℕ → Bool) → Place → Type 0
PlaceIsHere here (on own h) = here own ≡ true
PlaceIsHere here _ = Unit {0}

place_here : (v : Option PeerChannel) (known : ℕ → Option Session) → PlaceIsHere (maps v) (place_by v known)
place_here None known = tt
place_here (Some Ending) known = tt
place_here (Some (Mapped own)) known = by (known own)
  where
    by : (v : Option Session) → PlaceIsHere (maps (Some (Mapped own))) (on_session own v)
    by None = tt
    by (Some h) = eq-eqb own own refl

-- each row
header_here : (here : ℕ → Bool) (r : Result (Unit {0}) ConnFault) → IsHere here (header_by r)
header_here here (Ok q) = tt
header_here here (Err f) = tt

open_here : (here : ℕ → Bool) (x : AnOpen) (r : Result (Unit {0}) ConnFault) → IsHere here (open_by x r)
open_here here x (Ok q) = by_test (nat_lt 1024 (length x.container_id)) (λ e. rw e tt) (λ e. rw e tt)
open_here here x (Err f) = tt

begin_here : (here : ℕ → Bool) (at : Place) (free : Option ℕ) (awaits : ℕ → Bool) (theirs : ℕ) (x : ABegin) → IsHere here (begin_reply at free awaits theirs x)
begin_here here nowhere free awaits theirs x = by free x.remote_channel
  where
    by : (free m : Option ℕ) → IsHere here (begin_by theirs free awaits m)
    by free (Some own) = by_test (awaits own) (λ e. rw e tt) (λ e. rw e tt)
    by None None = tt
    by (Some own) None = tt
begin_here here ending free awaits theirs x = tt
begin_here here (on own s) free awaits theirs x = tt

end_here : (here : ℕ → Bool) (at : Place) → IsHere here (end_reply at)
end_here here nowhere = tt
end_here here ending = tt
end_here here (on own s) = tt

attach_here : (here : ℕ → Bool) (at : Place) (links : Links) (free : ℕ → Option ℕ) (a : AnAttach) → IsHere here (attach_reply at links free a)
attach_here here nowhere links free a = tt
attach_here here ending links free a = tt
attach_here here (on own s) links free a = by_test (nat_lt 63 a.handle) (λ e. rw e tt) (λ e. rw e (by (links own a.handle) (free own)))
  where
    refused : (handle : ℕ) (x : Option Condition) → IsHere here (attach_or x own handle)
    refused handle (Some x) = tt
    refused handle None = tt

    by : (at : LinkPlace) (free : Option ℕ) → IsHere here (attach_at own at free a)
    by no_link None = tt
    by no_link (Some handle) = refused handle (refusal a)
    by detaching free = tt
    by (on_link k l) free = tt

detach_here : (here : ℕ → Bool) (at : Place) (links : Links) (x : ADetach) → IsHere here (detach_reply at links x)
detach_here here nowhere links x = tt
detach_here here ending links x = tt
detach_here here (on own s) links x = by (links own x.handle)
  where
    by : (at : LinkPlace) → IsHere here (session_detach_reply own at x)
    by no_link = tt
    by detaching = tt
    by (on_link k l) = tt

disposition_here : (here : ℕ → Bool) (at : Place) (x : ADisposition) → IsHere here (disposition_reply at x)
disposition_here here nowhere x = tt
disposition_here here ending x = tt
disposition_here here (on own s) x = by_test (asks x.role x.settled (terminal x.state)) (λ e. rw e tt) (λ e. rw e tt)

link_echo_here : (here : ℕ → Bool) (q : Bool) (own : ℕ) (s : Session) (handle count left : ℕ) → IsHere here (link_echo q own s handle count left)
link_echo_here here true own s handle count left = tt
link_echo_here here false own s handle count left = tt

flow_here : (here : ℕ → Bool) (at : Place) (links : Links) (f : AFlow) → IsHere here (flow_reply at links f)
flow_here here nowhere links f = tt
flow_here here ending links f = tt
flow_here here (on own s) links f = by f.handle
  where
    of_link : (k : ℕ) (durable : Bool) (w : Happened) → IsHere here (link_flow_on own (TheirFlow (flow_state f) ∷ s) k durable w f)
    of_link k durable (sends list) = link_echo_here here f.echo own (TheirFlow (flow_state f) ∷ s) k _ _
    of_link k durable (receives list) = by_test (is_reached f.delivery_count (delivery_count list) (unused list))
        (λ e. rw e (link_echo_here here f.echo own (TheirFlow (flow_state f) ∷ s) k _ _))
        (λ e. rw e tt)

    wanted : (q : Bool) → IsHere here (echo q own (TheirFlow (flow_state f) ∷ s))
    wanted true = tt
    wanted false = tt

    on_handle : (at : LinkPlace) → IsHere here (link_flow_reply own s at f)
    on_handle no_link = tt
    on_handle detaching = tt
    on_handle (on_link k l) = of_link k l.durable l.happened

    by : (handle : Option ℕ) → IsHere here (flow_on own s (links own) f handle)
    by None = wanted f.echo
    by (Some handle) = on_handle (links own handle)

transfer_here : (here : ℕ → Bool) (at : Place) (links : Links) (claimed : ℕ → ℕ → Bool) (x : ATransfer) → PlaceIsHere here at → IsHere here (transfer_reply at links claimed x)
transfer_here here nowhere links claimed x place = tt
transfer_here here ending links claimed x place = tt
transfer_here here (on own s) links claimed x place =
    by_test (is_unattached (links own x.handle)) (λ e. rw e tt)
    (λ e. rw e (by_test (nat_eq (allowance s) 0) (λ f. rw f tt) (λ f. rw f (by (links own x.handle)))))
  where
    within : (k : ℕ) (durable : Bool) (left : ℕ) (first : Option Told) → IsHere here (delivery_by own k durable left (claimed own) first x)
    within k durable left None = by_test (is_anonymous x) (λ e. rw e tt)
        (λ e. rw e (by_test (is_among (claimed own) x.delivery_id) (λ f. rw f tt) (λ f. rw f (by_test (nat_eq left 0) (λ g. rw g tt) (λ g. rw g place)))))
    within k durable left (Some first) =
        by_test (is_same_id x.delivery_id first.id && is_same_tag (tag_in x) (option_map (λ tag. tag.items) first.tag)) (λ e. rw e place) (λ e. rw e tt)

    carried : (k : ℕ) (durable : Bool) (w : Happened) → IsHere here (delivery_on own k durable (claimed own) w x)
    carried k durable (sends list) = tt
    carried k durable (receives list) = within k durable (unused list) (middle_by (receives list))

    by : (at : LinkPlace) → IsHere here (link_transfer_reply own (claimed own) at x)
    by no_link = tt
    by detaching = tt
    by (on_link k l) = carried k l.durable l.happened

out_of_turn_here : (here : ℕ → Bool) (f : ConnFault) → IsHere here (out_of_turn f)
out_of_turn_here here ChannelTooHigh = tt
out_of_turn_here here _ = tt

close_here : (here : ℕ → Bool) (r : Result (Unit {0}) ConnFault) → IsHere here (close_by r)
close_here here (Ok q) = tt
close_here here (Err f) = out_of_turn_here here f

turn_here : (here : ℕ → Bool) (k : Finds) (channel : ℕ) (body : Perf) (r : Result (Unit {0}) ConnFault) → IsHere here (in_turn k channel body) → IsHere here (turn_by k channel body r)
turn_here here k channel body (Ok q) it = it
turn_here here k channel body (Err f) it = out_of_turn_here here f

in_turn_here : (here : ℕ → Bool) (k : Finds) (channel : ℕ) (body : Perf) → PlaceIsHere here (k.places channel) → IsHere here (in_turn k channel body)
in_turn_here here k channel (perf.Begin x) place = begin_here here (k.places channel) k.free_channel k.awaits channel x
in_turn_here here k channel (perf.Attach x) place = attach_here here (k.places channel) k.links k.free_handle x
in_turn_here here k channel (perf.Flow x) place = flow_here here (k.places channel) k.links x
in_turn_here here k channel (perf.Transfer x) place = transfer_here here (k.places channel) k.links k.claimed x place
in_turn_here here k channel (perf.Disposition x) place = disposition_here here (k.places channel) x
in_turn_here here k channel (perf.Detach x) place = detach_here here (k.places channel) k.links x
in_turn_here here k channel (perf.End x) place = end_here here (k.places channel)
in_turn_here here k channel _ place = tt

perf_here : (here : ℕ → Bool) (p : Conn) (k : Finds) (channel : ℕ) (body : Perf) → IsHere here (in_turn k channel body) → IsHere here (perf_reply p k channel body)
perf_here here p k channel (perf.Open x) it = open_here here x (open_in_turn x p)
perf_here here p k channel (perf.Close x) it = close_here here (close_in_turn channel p)
perf_here here p k channel body it = turn_here here k channel body (frame_in_turn channel p) it

item_here : (here : ℕ → Bool) (p : Conn) (k : Finds) (i : Item) → PlaceIsHere here (k.places (channel_of i)) → IsHere here (item_reply p k i)
item_here here p k (item.Header x y z w) place = header_here here (header_in_turn p)
item_here here p k (item.Frame true channel body payload) place = tt
item_here here p k (item.Frame false channel body payload) place = perf_here here p k channel body (in_turn_here here k channel body place)
item_here here p k (item.Beat channel) place = by_test (nat_lt 14 channel) (λ e. rw e tt) (λ e. rw e tt)
item_here here p k (item.Bad f) place = tt

pub taken_here : (p : Conn) (t : List Entry) (c : ℕ) (i : Item) → IsHere (maps (theirs t c (channel_of i))) (item_reply p (finds t c) i)
taken_here p t c i =
    item_here (maps (theirs t c (channel_of i))) p (finds t c) i (place_here (theirs t c (channel_of i)) (session t c))

-- also if the book stands in the way of a link
booked_here : (here : ℕ → Bool) (own : ℕ) (free : Option ℕ) (refusal : Option Condition) → IsHere here (attach_unless own free refusal)
booked_here here own free None = tt
booked_here here own None (Some x) = tt
booked_here here own (Some handle) (Some x) = tt

attach_here_or : (here : ℕ → Bool) (free : ℕ → Option ℕ) (refusal : Option Condition) (a : Answer) → IsHere here a → IsHere here (booked_attach free refusal a)
attach_here_or here free refusal (Attach own) is = booked_here here own (free own) refusal
attach_here_or here free refusal _ is = is

transfer_here_or : (here : ℕ → Bool) (b : BookView) (t : List Entry) (c : ℕ) (x : ATransfer) (a : Answer) → IsHere here a → IsHere here (booked_transfer b t c x a)
transfer_here_or here b t c x (Taken own handle) is =
    by_test (is_none (middle_on (link_place t c own x.handle)) && repeats b t c own handle x.resume (durable_key (link t c own handle)) (tag_in x)) (λ e. rw e tt) (λ e. rw e is)
transfer_here_or here b t c x _ is = is

perf_here_or : (here : ℕ → Bool) (full : Bool) (b : BookView) (t : List Entry) (c : ℕ) (body : Perf) (a : Answer) → IsHere here a → IsHere here (booked_perf full b t c body a)
perf_here_or here full b t c (perf.Attach x) a is = attach_here_or here (free_handle t c) (book_refusal full b t c x) a is
perf_here_or here full b t c (perf.Transfer x) a is = transfer_here_or here b t c x a is
perf_here_or here full b t c _ a is = is

answer_here_or : (here : ℕ → Bool) (full : Bool) (b : BookView) (t : List Entry) (c : ℕ) (i : Item) (a : Answer) → IsHere here a → IsHere here (booked full b t c i a)
answer_here_or here full b t c (item.Frame sasl channel body payload) a is = perf_here_or here full b t c body a is
answer_here_or here full b t c _ a is = is

pub answer_here : (full : Bool) (b : BookView) (p : Conn) (t : List Entry) (c : ℕ) (i : Item) → IsHere (maps (theirs t c (channel_of i))) (answer_at full b t c p i)
answer_here full b p t c i = answer_here_or (maps (theirs t c (channel_of i))) full b t c i (item_reply p (finds t c) i) (taken_here p t c i)
