-- Where a transfer is taken: on the session that its channel stands for, and on the link that its handle stands for, with the peer as the sender.
use Rattle.std.proofs.Common.{◌≡◌, refl, ℕ, Bool, true, false}
use Rattle.std.specs.Prelude.{nat_eq, is_none, ◌&&◌, List, Option, Some, None, Result, Ok, Err, option_map}
use Rattle.amqp_model.specs.declared.perf.Perf.TheVariants as perf
use Rattle.amqp_model.specs.declared.perf.Transfer.{Transfer}
use Rattle.amqp_model.specs.declared.item.Item.TheVariants as item
use Rattle.amqp_conn.specs.declared.conn.Conn.{Conn}
use Rattle.amqp_conn.specs.declared.fault.ConnFault.{ConnFault}
use Rattle.amqp_conn.specs.declared.fault.ConnFault.TheVariants.{ChannelTooHigh}
use Rattle.amqp_conn.specs.Phase.{frame_in_turn}
use Rattle.amqp_link.specs.declared.part.Delivery.{Delivery as Told}
use Rattle.amqp_link.specs.Receiving.{Received, unused}
use Rattle.amqp_session.specs.Session.{Session, allowance}
use Rattle.book_model.specs.Book.{BookView}
use Rattle.router_trace.specs.declared.channel.PeerChannel.{PeerChannel}
use Rattle.router_trace.specs.declared.channel.PeerChannel.TheVariants.{Mapped, Ending}
use Rattle.router_trace.specs.Trace.{Trace}
use Rattle.router_trace.specs.Sessions.{on_session, place_by, session, theirs}
use Rattle.router_trace.specs.Links.{Link, LinkPlace, nowhere, detaching, on, Happened, sends, receives, link, link_place, durable_key}
use Rattle.router_trace.specs.Deliveries.{tag_in}
use Rattle.router_trace.specs.Settling.{middle_by, middle_on}
use Rattle.reply_rows.specs.declared.answer.Answer.{Answer}
use Rattle.reply_rows.specs.declared.answer.Answer.TheVariants.{Taken}
use Rattle.reply_rows.specs.Rows.{Finds, Links, transfer_reply, in_turn, out_of_turn, turn_by, item_reply}
use Rattle.reply_rows.specs.LinkRows.{is_anonymous, is_among, is_same_id, is_same_tag, is_unattached, delivery_by, delivery_on, link_transfer_reply, session_transfer_reply}
use Rattle.reply_rows.specs.Booking.{repeats, booked_transfer, answer_at}
use Rattle.reply_rows.specs.Finding.{finds}
use Rattle.state_connections.proofs.Lists.{by_test}

pub record IsOn (sasl : Bool) (v : Option PeerChannel) (at : LinkPlace) (own handle : ℕ) : Type 0 where
  pub plain : sasl ≡ false
  pub session : v ≡ Some (Mapped own)
  pub place : Link
  pub happened : Received
  pub on_handle : at ≡ on handle place
  pub receiving : place.happened ≡ receives happened

abbrev pub IfTaken : Bool → Option PeerChannel → (ℕ → LinkPlace) → Answer → Type 0
IfTaken sasl v at (Taken own handle) = IsOn sasl v (at own) own handle
IfTaken sasl v at _ = Unit {0}

by_link : (own : ℕ) (claimed : ℕ → Bool) (links : ℕ → LinkPlace) (x : Transfer) (place : LinkPlace) → links own ≡ place
    → IfTaken false (Some (Mapped own)) links (link_transfer_reply own claimed place x)
by_link own claimed links x nowhere at = tt
by_link own claimed links x detaching at = tt
by_link own claimed links x (on handle l) at = by l.happened refl
  where
    is : (list : Received) → l.happened ≡ receives list → IsOn false (Some (Mapped own)) (links own) own handle
    is list e = record { plain = refl; session = refl; place = l; happened = list; on_handle = at; receiving = e }

    within : (list : Received) → l.happened ≡ receives list → (first : Option Told)
        → IfTaken false (Some (Mapped own)) links (delivery_by own handle l.durable (unused list) claimed first x)
    within list e None =
        by_test (is_anonymous x) (λ f. rw f tt)
        (λ f. rw f (by_test (is_among claimed x.delivery_id) (λ g. rw g tt) (λ g. rw g (by_test (nat_eq (unused list) 0) (λ h. rw h tt) (λ h. rw h (is list e))))))
    within list e (Some first) =
        by_test (is_same_id x.delivery_id first.id && is_same_tag (tag_in x) (option_map (λ tag. tag.items) first.tag)) (λ f. rw f (is list e)) (λ f. rw f tt)

    by : (w : Happened) → l.happened ≡ w → IfTaken false (Some (Mapped own)) links (delivery_on own handle l.durable claimed w x)
    by (sends list) e = tt
    by (receives list) e = within list e (middle_by (receives list))

by_session : (own : ℕ) (h : Session) (claimed : ℕ → Bool) (links : ℕ → LinkPlace) (x : Transfer)
    → IfTaken false (Some (Mapped own)) links (session_transfer_reply own h claimed (links own) x)
by_session own h claimed links x =
    by_test (is_unattached (links own)) (λ e. rw e tt)
    (λ e. rw e (by_test (nat_eq (allowance h) 0) (λ f. rw f tt) (λ f. rw f (by_link own claimed links x (links own) refl))))

by_place : (v : Option PeerChannel) (known : ℕ → Option Session) (links : Links) (claimed : ℕ → ℕ → Bool) (x : Transfer)
    → IfTaken false v (λ own. links own x.handle) (transfer_reply (place_by v known) links claimed x)
by_place None known links claimed x = tt
by_place (Some Ending) known links claimed x = tt
by_place (Some (Mapped own)) known links claimed x = by (known own)
  where
    by : (v : Option Session) → IfTaken false (Some (Mapped own)) (λ own. links own x.handle) (transfer_reply (on_session own v) links claimed x)
    by None = tt
    by (Some h) = by_session own h (claimed own) (λ own. links own x.handle) x

by_turn : (v : Option PeerChannel) (at : ℕ → LinkPlace) (k : Finds) (channel : ℕ) (x : Transfer) (r : Result (Unit {0}) ConnFault)
    → IfTaken false v at (in_turn k channel (perf.Transfer x)) → IfTaken false v at (turn_by k channel (perf.Transfer x) r)
by_turn v at k channel x (Ok q) it = it
by_turn v at k channel x (Err f) it = by f
  where
    by : (f : ConnFault) → IfTaken false v at (out_of_turn f)
    by ChannelTooHigh = tt
    by _ = tt

row_taken : (p : Conn) (t : Trace) (c : ℕ) (sasl : Bool) (channel : ℕ) (x : Transfer) (payload : List ℕ)
    → IfTaken sasl (theirs t c channel) (λ own. link_place t c own x.handle) (item_reply p (finds t c) (item.Frame sasl channel (perf.Transfer x) payload))
row_taken p t c true channel x payload = tt
row_taken p t c false channel x payload =
    by_turn (theirs t c channel) (λ own. link_place t c own x.handle) (finds t c) channel x (frame_in_turn channel p)
    (by_place (theirs t c channel) (session t c) (link_place t c) (finds t c).claimed x)

-- a row that repeats one of the book is not taken; else the answer is as without a book
booked_taken : (b : BookView) (t : Trace) (c : ℕ) (sasl : Bool) (v : Option PeerChannel) (x : Transfer) (a : Answer)
    → IfTaken sasl v (λ own. link_place t c own x.handle) a → IfTaken sasl v (λ own. link_place t c own x.handle) (booked_transfer b t c x a)
booked_taken b t c sasl v x (Taken own handle) here =
    by_test (is_none (middle_on (link_place t c own x.handle)) && repeats b t c own handle x.resume (durable_key (link t c own handle)) (tag_in x)) (λ e. rw e tt) (λ e. rw e here)
booked_taken b t c sasl v x _ here = here

pub transfer_taken : (full : Bool) (b : BookView) (p : Conn) (t : Trace) (c : ℕ) (sasl : Bool) (channel : ℕ) (x : Transfer) (payload : List ℕ)
    → IfTaken sasl (theirs t c channel) (λ own. link_place t c own x.handle) (answer_at full b t c p (item.Frame sasl channel (perf.Transfer x) payload))
transfer_taken full b p t c sasl channel x payload =
    booked_taken b t c sasl (theirs t c channel) x (item_reply p (finds t c) (item.Frame sasl channel (perf.Transfer x) payload)) (row_taken p t c sasl channel x payload)
