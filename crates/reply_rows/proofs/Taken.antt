-- A transfer that is taken is taken on the link that its handle stands for, and the book has nothing to say to an answer that closes.
use Rattle.std.proofs.Common.{◌≡◌, ◌∙◌, refl, sym, ap, subst, ℕ, Bool, false}
use Rattle.std.specs.Prelude.{nat_eq, is_none, ◌&&◌, if◌then◌else◌, Option, Some, None, option_map}
use Rattle.amqp_model.specs.declared.perf.Perf.{Perf}
use Rattle.amqp_model.specs.declared.perf.Perf.TheVariants as perf
use Rattle.amqp_model.specs.declared.perf.Transfer.{Transfer as ATransfer}
use Rattle.amqp_conn.specs.declared.fault.ConnFault.{ConnFault}
use Rattle.amqp_conn.specs.declared.fault.ConnFault.TheVariants.{ChannelTooHigh}
use Rattle.amqp_link.specs.declared.part.Delivery.{Delivery as Told}
use Rattle.amqp_link.specs.Receiving.{unused}
use Rattle.amqp_session.specs.Session.{Session, allowance}
use Rattle.book_model.specs.Book.{BookView}
use Rattle.book_model.specs.declared.terminus.LinkKey.{LinkKey}
use Rattle.router_trace.specs.declared.condition.Condition.{Condition}
use Rattle.router_trace.specs.declared.condition.Condition.TheVariants.{NotAllowed, FramingError}
use Rattle.router_trace.specs.declared.handle.PeerHandle.{PeerHandle}
use Rattle.router_trace.specs.declared.handle.PeerHandle.TheVariants.{Mapped, Detaching}
use Rattle.router_trace.specs.Trace.{Trace}
use Rattle.router_trace.specs.Deliveries.{tag_in}
use Rattle.router_trace.specs.Links.{Link, LinkPlace, nowhere, detaching, on, Happened, sends, receives, link, link_place, link_place_by, on_link, their_handle, durable_key}
use Rattle.router_trace.specs.Settling.{middle_by, middle_on}
use Rattle.state_connections.proofs.Lists.{by_test}
use Rattle.state_links.specs.Looking.{key_on}
use Rattle.reply_rows.specs.declared.answer.Answer.{Answer}
use Rattle.reply_rows.specs.declared.answer.Answer.TheVariants.{CloseWith, Detach, Taken}
use Rattle.reply_rows.specs.Rows.{out_of_turn}
use Rattle.reply_rows.specs.LinkRows.{is_anonymous, is_among, is_same_id, is_same_tag, is_unattached, delivery_by, delivery_on, link_transfer_reply, session_transfer_reply}
use Rattle.reply_rows.specs.Booking.{IsAt, TakesOn, repeats, starts_again, booked_transfer, booked_perf}

pub takes_on : (own : ℕ) (h : Session) (claimed : ℕ → Bool) (at : LinkPlace) (x : ATransfer) → TakesOn own at (session_transfer_reply own h claimed at x)
takes_on own h claimed at x =
    by_test (is_unattached at) (λ e. rw e tt) (λ e. rw e (by_test (nat_eq (allowance h) 0) (λ f. rw f tt) (λ f. rw f (by at))))
  where
    within : (k : ℕ) (l : Link) (left : ℕ) (first : Option Told) → TakesOn own (on k l) (delivery_by own k l.durable left claimed first x)
    within k l left None =
        by_test (is_anonymous x) (λ e. rw e tt)
        (λ e. rw e (by_test (is_among claimed x.delivery_id) (λ f. rw f tt) (λ f. rw f (by_test (nat_eq left 0) (λ g. rw g tt) (λ g. rw g (refl, refl))))))
    within k l left (Some first) =
        by_test (is_same_id x.delivery_id first.id && is_same_tag (tag_in x) (option_map (λ tag. tag.items) first.tag)) (λ e. rw e (refl, refl)) (λ e. rw e tt)

    carried : (k : ℕ) (l : Link) (w : Happened) → TakesOn own (on k l) (delivery_on own k l.durable claimed w x)
    carried k l (sends list) = tt
    carried k l (receives list) = within k l (unused list) (middle_by (receives list))

    by : (place : LinkPlace) → TakesOn own place (link_transfer_reply own claimed place x)
    by nowhere = tt
    by detaching = tt
    by (on k l) = carried k l l.happened

-- the key found on a handle is that of the link on which the transfer is taken
pub key_there : (t : Trace) (c own p h : ℕ) → IsAt (link_place t c own p) h → key_on (link_place t c own p) ≡ durable_key (link t c own h)
key_there t c own p h = by (their_handle t c own p)
  where
    there : (g : ℕ) (v : Option Link) → v ≡ link t c own g → IsAt (on_link g v) h → key_on (on_link g v) ≡ durable_key (link t c own h)
    there g None is at = absurd at
    there g (Some l) is at = ap durable_key (is ∙ ap (λ n. link t c own n) at)

    by : (q : Option PeerHandle) → IsAt (link_place_by q (link t c own)) h → key_on (link_place_by q (link t c own)) ≡ durable_key (link t c own h)
    by None at = absurd at
    by (Some Detaching) at = absurd at
    by (Some (Mapped g)) at = there g (link t c own g) refl at

pub booked_as : (b : BookView) (t : Trace) (c own o h : ℕ) (x : ATransfer) (middle : Option Told) (key : Option LinkKey) (again : Bool) (answer : Answer)
    → answer ≡ Taken o h → TakesOn own (link_place t c own x.handle) answer
    → middle ≡ middle_on (link_place t c own x.handle) → key ≡ key_on (link_place t c own x.handle) → again ≡ starts_again b t c o h middle key x
    → (if again then Detach o h false (Some NotAllowed) else Taken o h) ≡ booked_transfer b t c x answer
booked_as b t c own o h x middle key again answer is takes is_middle is_key tests =
    ap (λ (u : Bool). if u then Detach o h false (Some NotAllowed) else Taken o h)
    (tests
    ∙ ap (λ (m : Option Told). starts_again b t c o h m key x) is_middle
    ∙ ap (λ (k : Option LinkKey). starts_again b t c o h (middle_on (link_place t c own x.handle)) k x) (is_key ∙ key_there t c own x.handle h on_it.1)
    ∙ ap (λ (n : ℕ). is_none (middle_on (link_place t c n x.handle)) && repeats b t c o h x.resume (durable_key (link t c n h)) (tag_in x)) on_it.0)
    ∙ ap (λ (a : Answer). booked_transfer b t c x a) (sym is)
  where
    on_it : TakesOn own (link_place t c own x.handle) (Taken o h)
    on_it = subst (λ (a : Answer). TakesOn own (link_place t c own x.handle) a) is takes

closes_unbooked : (full : Bool) (b : BookView) (t : Trace) (c : ℕ) (p : Perf) (x : Condition) → CloseWith x ≡ booked_perf full b t c p (CloseWith x)
closes_unbooked full b t c (perf.Attach a) x = refl
closes_unbooked full b t c (perf.Transfer a) x = refl
closes_unbooked full b t c _ x = refl

pub early_unbooked : (full : Bool) (b : BookView) (t : Trace) (c : ℕ) (p : Perf) → CloseWith NotAllowed ≡ booked_perf full b t c p (CloseWith NotAllowed)
early_unbooked full b t c p = closes_unbooked full b t c p NotAllowed

pub fault_unbooked : (full : Bool) (b : BookView) (t : Trace) (c : ℕ) (p : Perf) (f : ConnFault) → out_of_turn f ≡ booked_perf full b t c p (out_of_turn f)
fault_unbooked full b t c p ChannelTooHigh = closes_unbooked full b t c p FramingError
fault_unbooked full b t c p _ = closes_unbooked full b t c p NotAllowed
