-- The frames that are sent after an event's rows, before narrow windows are restored: flows, transfers and dispositions, each on the session of an
-- attached link.
use Rattle.std.proofs.Common.{◌≡◌, ◌∙◌, sym, ap, refl, subst, true≢false, ℕ, zero, suc, ◌+◌, Bool, true, false, not, ◌&&◌, ◌||◌, List, [], ◌∷◌}
use Rattle.std.specs.Prelude.{◌==◌, Option, Some, None, not, is_some, is_none, option_map, if◌then◌else◌, take}
use Rattle.amqp_model.specs.declared.perf.Perf.{Perf}
use Rattle.amqp_model.specs.declared.perf.Perf.TheVariants as perf
use Rattle.amqp_model.specs.declared.perf.Transfer.{Transfer}
use Rattle.amqp_model.specs.declared.state.DeliveryState.{DeliveryState}
use Rattle.amqp_model.specs.declared.item.Item.{Item}
use Rattle.amqp_model.specs.declared.item.Item.TheVariants as item
use Rattle.amqp_model.specs.Room.{transfer_frame}
use Rattle.amqp_session.specs.Session.{Session}
use Rattle.router_trace.specs.declared.binding.Origin.{Origin}
use Rattle.router_trace.specs.declared.handle.Asked.{Asked}
use Rattle.router_trace.specs.declared.binding.Rank.{Rank}
use Rattle.router_trace.specs.declared.handle.Attachment.{Attachment}
use Rattle.router_trace.specs.Trace.{Entry, Put, Out}
use Rattle.router_trace.specs.Frames.{told_of}
use Rattle.router_trace.specs.LinkFrames.{fits}
use Rattle.router_trace.specs.Links.{Link, Happened, sends, receives, link, link_in, link_after, key_at, numbered, attachments, asked}
use Rattle.router_trace.specs.Peers.{largest_frame}
use Rattle.router_trace.specs.Sessions.{session}
use Rattle.router_trace.specs.Deliveries.{Delivery, has_row, delivery, bindings, sending, next_id, is_number, is_earlier, rank_at}
use Rattle.router_trace.specs.DeliveryFrames.{first_transfer, later_transfer, with_more, part_frame, filled, next_frame, largest_out, rest_of}
use Rattle.router_trace.specs.Numbers.{Placed, is_ahead, no_rank, or_better, or_earlier, first_placed, first_ranked}
use Rattle.router_trace.specs.Following.{link_of, is_still_attached, is_to_be_told, outcome_to, tell, tells_of, tells, goes_on_at, is_going, has_credit, takes_more, can_start, is_wide, is_there, can_go, place_to_go, transfer_of, send, send_of, sends_due, drain_of, drain_on, drain_by, place_drained, drains_due}
use Rattle.state_messages.specs.Messages.{grants_due}
use Rattle.state_connections.proofs.Lists.{by_test}
use Rattle.router_core.proofs.Granting.{AllGrants, all_grants}
use Rattle.router_core.proofs.Linked.{numbered_some}

pub both_true : (a b : Bool) → (a && b) ≡ true → (a ≡ true) × (b ≡ true)
both_true true b h = (refl, h)
both_true false b h = absurd cc

-- a property of the lowest number that passes, and of the first place: it holds if it holds of none and of each that passes
pub ranked_elim : (rank : ℕ → Rank) (n : ℕ) (passes : ℕ → Bool) (Q : Option ℕ → Type 0) → Q None → ((k : ℕ) → passes k ≡ true → Q (Some k)) → Q (first_ranked rank n passes)
unfolding first_ranked
ranked_elim rank zero passes Q none some = none
ranked_elim rank (suc n) passes Q none some =
    ranked_elim rank n passes (λ v. Q (if passes n then or_earlier rank v n else v)) (by_test (passes n) (λ e. rw e (some n e)) (λ e. rw e none)) next
  where
    next : (k : ℕ) → passes k ≡ true → Q (if passes n then or_earlier rank (Some k) n else Some k)
    next k e = by_test (passes n) (λ f. rw f (by_test (is_earlier (rank n) (rank k)) (λ h. rw h (some n f)) (λ h. rw h (some k e)))) (λ f. rw f (some k e))

pub placed_elim : (rank : ℕ → Rank) (n : ℕ) (place : ℕ → Option Attachment) (Q : Option Placed → Type 0) → Q None
    → ((k : ℕ) (a : Attachment) → place k ≡ Some a → Q (Some (record { number = k; place = a }))) → Q (first_placed rank n place)
unfolding first_placed
placed_elim rank zero place Q none some = none
placed_elim rank (suc n) place Q none some = placed_elim rank n place (λ v. Q (or_better rank v n (place n))) (new (place n) refl) (λ k a e. next k a e (place n) refl)
  where
    new : (x : Option Attachment) → place n ≡ x → Q (or_better rank None n x)
    new None e = none
    new (Some a) e = some n a e

    next : (k : ℕ) (a : Attachment) → place k ≡ Some a → (x : Option Attachment) → place n ≡ x → Q (or_better rank (Some (record { number = k; place = a })) n x)
    next k a e None f = some k a e
    next k a e (Some b) f = by_test (is_ahead rank n b (record { number = k; place = a })) (λ h. rw h (some n b f)) (λ h. rw h (some k a e))

-- frames on the session of a link

abbrev pub goes_on_link : Perf → Bool
goes_on_link (perf.Flow f) = true
goes_on_link (perf.Transfer x) = true
goes_on_link (perf.Disposition x) = true
goes_on_link _ = false

pub record OnLink (t : List Entry) (p : Put) : Type 0 where
  pub own : ℕ
  pub handle : ℕ
  pub body : Perf
  pub payload : List ℕ
  pub frame : p.item ≡ item.Frame false own body payload
  pub kind : goes_on_link body ≡ true
  pub linked : is_some (link t p.conn own handle) ≡ true

abbrev pub AllOnLinks : List Entry → List Put → Type 0
AllOnLinks t [] = Unit {0}
AllOnLinks t (p ∷ ps) = OnLink t p × AllOnLinks t ps

-- they leave links attached
mapped_stays : (q : Bool) (f : Link → Link) (v : Option Link) → is_some v ≡ true → is_some (if q then option_map f v else v) ≡ true
mapped_stays true f None some = some
mapped_stays true f (Some l) some = refl
mapped_stays false f v some = some

stays_perf : (body : Perf) (own o h n : ℕ) (t : List Entry) (c : ℕ) (last : Option Asked) (v : Option Link)
    → goes_on_link body ≡ true → is_some v ≡ true → is_some (link_in body own o h n (key_at t c) last v) ≡ true
stays_perf (perf.Flow f) own o h n t c last v kind some = mapped_stays _ _ v some
stays_perf (perf.Transfer x) own o h n t c last v kind some = mapped_stays _ _ v some
stays_perf (perf.Disposition x) own o h n t c last v kind some = some
stays_perf _ own o h n t c last v kind some = absurd cc

pub link_stays : (t u : List Entry) (p : Put) → OnLink u p → (c o h : ℕ) → is_some (link t c o h) ≡ true → is_some (link (Out p.conn p.item ∷ t) c o h) ≡ true
link_stays t u p on_link c o h some =
    by_test (p.conn == c)
    (λ e. rw e (subst (λ (i : Item). is_some (link_after i o h (attachments t + 1) (key_at t c) (asked t c) (link t c o h)) ≡ true) (sym on_link.frame)
    (stays_perf on_link.body on_link.own o h (attachments t + 1) t c (asked t c) (link t c o h) on_link.kind some)))
    (λ e. rw e some)

pub on_after : (ps : List Put) (t u : List Entry) (p : Put) → OnLink u p → AllOnLinks t ps → AllOnLinks (Out p.conn p.item ∷ t) ps
on_after [] t u p on_link all = tt
on_after (q ∷ qs) t u p on_link all = (
  record {
    own = all.0.own;
    handle = all.0.handle;
    body = all.0.body;
    payload = all.0.payload;
    frame = all.0.frame;
    kind = all.0.kind;
    linked = link_stays t u p on_link q.conn all.0.own all.0.handle all.0.linked;
  },
  on_after qs t u p on_link all.1,
)

-- outcomes to producers

told_origin : (t : List Entry) (origin : Option Origin) (settled : Bool) (decided : Option DeliveryState) → is_still_attached t origin ≡ true → AllOnLinks t (outcome_to origin settled decided)
told_origin t None settled decided here = tt
told_origin t (Some p) settled None here = tt
told_origin t (Some p) settled (Some s) here = (
  record {
    own = p.link.channel;
    handle = p.link.handle;
    body = _;
    payload = [];
    frame = refl;
    kind = refl;
    linked = numbered_some p.link.number (link t p.link.conn.0 p.link.channel p.link.handle) here;
  },
  tt,
)

told_on : (t : List Entry) (d : Option Delivery) → is_to_be_told t d ≡ true → AllOnLinks t (tell d)
told_on t None h = tt
told_on t (Some d) h = told_origin t d.origin (not (has_row d.name)) d.outcome (both_true (is_some d.outcome) (is_still_attached t d.origin) h).1

pub tells_on : (t : List Entry) → AllOnLinks t (tells t)
tells_on t = ranked_elim (rank_at t) (bindings t + 1) (λ n. is_to_be_told t (delivery t n)) (λ x. AllOnLinks t (tells_of t x)) tt (λ n e. told_on t (delivery t n) e)

-- sends: the session's window is open, and a delivery that starts has credit

-- a delivery goes on there, or one starts that has credit
pub record Takes (v : Option Link) : Type 0 where
  pub taker : Link
  pub here : v ≡ Some taker
  pub starts : taker.going_on ≡ false → has_credit taker.happened ≡ true

going_takes : (v : Option Link) (number : ℕ) (before : Option ℕ) (n : ℕ) → goes_on_at v number before n ≡ true → Takes v
going_takes None number before n h = absurd cc
going_takes (Some l) number before n h =
    let rest = (both_true (l.number == number) (l.going_on && is_number before n) h).1
    in record { taker = l; here = refl; starts = λ starts. absurd (true≢false (sym (both_true l.going_on (is_number before n) rest).0 ∙ starts)) }

starting_takes : (v : Option Link) (number : ℕ) → takes_more v number ≡ true → Takes v
starting_takes None number h = absurd cc
starting_takes (Some l) number h =
    let rest = (both_true (l.number == number) (not l.going_on && has_credit l.happened) h).1
    in record { taker = l; here = refl; starts = λ starts. (both_true (not l.going_on) (has_credit l.happened) rest).1 }

either_true : (P : Type 0) (a b : Bool) → (a || b) ≡ true → (a ≡ true → P) → (b ≡ true → P) → P
either_true P true b h left right = left refl
either_true P false b h left right = right h

-- what is sent of a delivery
pub record Sent (t : List Entry) (n : ℕ) (d : Delivery) : Type 0 where
  pub wide : is_wide (session t d.link.conn.0 d.link.channel) ≡ true
  pub takes : Takes (link t d.link.conn.0 d.link.channel d.link.handle)

can_go_sent : (t : List Entry) (n : ℕ) (d : Delivery) → can_go t n d ≡ true → Sent t n d
can_go_sent t n d h =
    let rest = (both_true (is_there (numbered t d.link.number) d.link) (is_wide (session t d.link.conn.0 d.link.channel) && (is_going t n d || can_start t d)) h).1
    in let both = both_true (is_wide (session t d.link.conn.0 d.link.channel)) (is_going t n d || can_start t d) rest
    in record {
      wide = both.0;
      takes = either_true (Takes (link_of t d.link)) (is_going t n d) (can_start t d) both.1
          (λ goes. going_takes (link_of t d.link) d.link.number (sending t d.link.conn.0 d.link.channel d.link.handle) n (both_true (is_some d.id && d.going_on) _ goes).1)
          (λ starts. starting_takes (link_of t d.link) d.link.number
          (both_true (takes_more (link_of t d.link) d.link.number) _ (both_true (is_none d.id && d.going_on) _ starts).1).0);
    }

-- its frame is a transfer on the delivery's link
pub record IsTransferOn (own handle : ℕ) (i : Item) : Type 0 where
  pub transfer : Transfer
  pub payload : List ℕ
  pub frame : i ≡ item.Frame false own (perf.Transfer transfer) payload
  pub on_handle : transfer.handle ≡ handle

next_is : (largest own : ℕ) (x : Transfer) (rest : List ℕ) → IsTransferOn own x.handle (next_frame largest own x rest)
next_is largest own x rest = by (fits largest (transfer_frame own x rest)) (filled largest own x rest)
  where
    by : (b : Bool) (n : ℕ) → IsTransferOn own x.handle (if b then transfer_frame own x rest else part_frame own x rest n)
    by true n = record { transfer = x; payload = rest; frame = refl; on_handle = refl }
    by false n = record { transfer = with_more x; payload = take n rest; frame = refl; on_handle = refl }

handle_is : (t : List Entry) (d : Delivery) → (transfer_of t d).handle ≡ d.link.handle
handle_is t d = by (is_none d.id)
  where
    by : (b : Bool) → (if b then first_transfer d.link.handle (next_id t d.link.conn.0 d.link.channel) d else later_transfer d.link.handle d).handle ≡ d.link.handle
    by true = refl
    by false = refl

-- a transfer, while the session's window is open and the link can take it
pub record IsSent (t : List Entry) (p : Put) : Type 0 where
  pub own : ℕ
  pub handle : ℕ
  pub transfer : IsTransferOn own handle p.item
  pub wide : is_wide (session t p.conn own) ≡ true
  pub takes : Takes (link t p.conn own handle)

abbrev pub AllSent : List Entry → List Put → Type 0
AllSent t [] = Unit {0}
AllSent t (p ∷ []) = IsSent t p
AllSent t (p ∷ q ∷ qs) = ⊥

sent_is : (t : List Entry) (n : ℕ) (d : Delivery) → Sent t n d → AllSent t (send t (Some d))
sent_is t n d is = record {
  own = d.link.channel;
  handle = d.link.handle;
  transfer = subst (λ (h : ℕ). IsTransferOn d.link.channel h (next_frame (largest_out (largest_frame t d.link.conn.0)) d.link.channel (transfer_of t d) (rest_of d)))
      (handle_is t d) (next_is (largest_out (largest_frame t d.link.conn.0)) d.link.channel (transfer_of t d) (rest_of d));
  wide = is.wide;
  takes = is.takes;
}

passed_test : (b : Bool) (x a : Attachment) → (if b then Some x else None) ≡ Some a → b ≡ true
passed_test true x a e = refl
passed_test false x a e = absurd cc

sent_all : (t : List Entry) (n : ℕ) (d : Option Delivery) (a : Attachment) → place_to_go t n d ≡ Some a → AllSent t (send t d)
sent_all t n None a e = tt
sent_all t n (Some d) a e = sent_is t n d (can_go_sent t n d (passed_test (can_go t n d) d.link a e))

pub sends_sent : (t : List Entry) → AllSent t (sends_due t)
sends_sent t =
    placed_elim (rank_at t) (bindings t + 1) (λ n. place_to_go t n (delivery t n)) (λ x. AllSent t (send_of t x)) tt (λ n a e. sent_all t n (delivery t n) a e)

sent_on : (t : List Entry) (ps : List Put) → AllSent t ps → AllOnLinks t ps
sent_on t [] sent = tt
sent_on t (p ∷ []) sent = (
  record {
    own = sent.own;
    handle = sent.handle;
    body = perf.Transfer sent.transfer.transfer;
    payload = sent.transfer.payload;
    frame = sent.transfer.frame;
    kind = refl;
    linked = ap (λ (v : Option Link). is_some v) sent.takes.here;
  },
  tt,
)
sent_on t (p ∷ q ∷ qs) sent = absurd sent

pub sends_on : (t : List Entry) → AllOnLinks t (sends_due t)
sends_on t = sent_on t (sends_due t) (sends_sent t)

-- answers to drains

drained_on : (t : List Entry) (a : Attachment) (s : Option Session) (v : Option Link) → link_of t a ≡ v → AllOnLinks t (drain_on a s v)
drained_on t a None v e = tt
drained_on t a (Some s) None e = tt
drained_on t a (Some s) (Some l) e = by l.happened
  where
    by : (w : Happened) → AllOnLinks t (drain_of a (told_of s) w)
    by (sends list) = (
      record {
        own = a.channel;
        handle = a.handle;
        body = _;
        payload = [];
        frame = refl;
        kind = refl;
        linked = ap (λ (v : Option Link). is_some v) e;
      },
      tt,
    )
    by (receives list) = tt

pub drains_on : (t : List Entry) → AllOnLinks t (drains_due t)
drains_on t =
    placed_elim no_rank (attachments t + 1) (λ n. place_drained t n (numbered t n)) (λ x. AllOnLinks t (drain_by t x)) tt
    (λ n a e. drained_on t a (session t a.conn.0 a.channel) (link_of t a) refl)

-- grants

grants_all : (t : List Entry) (ps : List Put) → AllGrants t ps → AllOnLinks t ps
grants_all t [] all = tt
grants_all t (p ∷ ps) all = (
  record {
    own = all.0.own;
    handle = all.0.handle;
    body = _;
    payload = [];
    frame = all.0.flow;
    kind = refl;
    linked = all.0.linked;
  },
  grants_all t ps all.1,
)

pub grants_on : (t : List Entry) → AllOnLinks t (grants_due t)
grants_on t = grants_all t (grants_due t) (all_grants t)
