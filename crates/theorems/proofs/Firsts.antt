-- First frames that are taken: each has a tag, and an id and (on a durable link) a tag that the link doesn't claim; any other answer ends the link. This is
-- for events that aren't refused.
use Rattle.std.proofs.Common.{◌≡◌, ◌∙◌, sym, ap, refl, subst, ◌⊎◌, inl, inr, ℕ, ◌<◌, ◌^◌, Bool, true, false, not, ◌&&◌, ◌||◌, List, [], ◌∷◌, ◌++◌}
use Rattle.std.specs.Prelude.{◌==◌, nat_eq, Option, Some, None, is_none, is_some, option_map, map, Result, Ok, Err, if◌then◌else◌}
use Rattle.std.proofs.lemmas.Bool.{eqb-true, eq-eqb, ltb-true}
use Rattle.amqp_model.specs.declared.perf.Perf.TheVariants as perf
use Rattle.amqp_model.specs.declared.perf.Transfer.{Transfer}
use Rattle.amqp_model.specs.declared.item.Item.{Item}
use Rattle.amqp_model.specs.declared.item.Item.TheVariants as item
use Rattle.amqp_conn.specs.declared.conn.Conn.{Conn}
use Rattle.amqp_conn.specs.declared.fault.ConnFault.{ConnFault}
use Rattle.amqp_conn.specs.declared.fault.ConnFault.TheVariants.{ChannelTooHigh}
use Rattle.amqp_conn.specs.Phase.{frame_in_turn}
use Rattle.amqp_link.specs.declared.part.Delivery.{Delivery as Told}
use Rattle.amqp_link.specs.Receiving.{Received, middle, unused}
use Rattle.amqp_session.specs.Session.{Session, allowance}
use Rattle.book_model.specs.Book.{BookView, terminus_of}
use Rattle.book_model.specs.declared.terminus.LinkKey.{LinkKey}
use Rattle.router_trace.specs.declared.channel.PeerChannel.{PeerChannel}
use Rattle.router_trace.specs.declared.channel.PeerChannel.TheVariants.{Mapped, Ending}
use Rattle.router_trace.specs.declared.event.ConnectionId.{ConnectionId}
use Rattle.router_trace.specs.declared.event.Event.{Event}
use Rattle.router_trace.specs.declared.event.Event.TheVariants as event
use Rattle.router_trace.specs.declared.handle.PeerHandle.{PeerHandle}
use Rattle.router_trace.specs.declared.handle.PeerHandle.TheVariants as handle
use Rattle.router_trace.specs.Trace.{Trace, Step}
use Rattle.router_trace.specs.Connection.{Connection, conn, due, ended, found, has, is_live, standing}
use Rattle.router_trace.specs.Claims.{Claim, claims}
use Rattle.router_trace.specs.Deliveries.{tag_in}
use Rattle.router_trace.specs.Links.{Link, LinkPlace, on, on_link, Happened, receives, link, link_place, link_place_by, their_handle, durable_key}
use Rattle.router_trace.specs.Numbers.{first_below}
use Rattle.router_trace.specs.Refusing.{refuses}
use Rattle.router_trace.specs.Sessions.{maps, on_session, place_by, session, theirs}
use Rattle.router_trace.specs.Settling.{is_claimed, middle_by, middle_on, told_first, uses_tag}
use Rattle.reply_rows.specs.declared.answer.Answer.{Answer}
use Rattle.reply_rows.specs.declared.answer.Answer.TheVariants.{CloseWith, Taken}
use Rattle.reply_rows.specs.Rows.{in_turn, out_of_turn, transfer_reply, turn_by}
use Rattle.reply_rows.specs.LinkRows.{is_serial, is_anonymous, is_among, delivery_by, delivery_on, session_transfer_reply, start_on}
use Rattle.reply_rows.specs.Booking.{repeats, stands_from, booked_transfer, answer_at}
use Rattle.reply_rows.specs.Finding.{finds}
use Rattle.reply_rows.specs.Acts.{book_in, booked, finds_full, journaled, live_answer}
use Rattle.reply_rows.specs.Deciding.{ended_by, lost}
use Rattle.state_connections.proofs.Lists.{by_test}
use Rattle.state_deliveries.specs.declared.change.Change.{Change}
use Rattle.state_deliveries.specs.declared.change.Change.TheVariants as change
use Rattle.state_deliveries.specs.declared.change.Gone.TheVariants as gone
use Rattle.theorems.proofs.Begun.{Begun, FirstFrame}
use Rattle.theorems.proofs.Ending.{CameBegun, answer_rest}
use Rattle.theorems.proofs.Owning.{Owned, ends_it, is_ending}
use Rattle.theorems.proofs.Wholes.{lost_ending}
use Rattle.theorems.proofs.Standing.{place}
use Rattle.theorems.proofs.Tests.{some_same, none_not_some}
use Rattle.theorems.proofs.Unshared.{uses_it}

clash : true ≡ false → ⊥
clash e = cc

-- what an answer ends

link_over : (c o h : ℕ) (closed : Bool) → is_ending (change.Ends (gone.Link c o h) closed ∷ []) (place c o h) ≡ true
link_over c o h closed = by (c == c) (o == o) (h == h) (eq-eqb c c refl) (eq-eqb o o refl) (eq-eqb h h refl)
  where
    by : (p q r : Bool) → p ≡ true → q ≡ true → r ≡ true → ((p && (q && r)) || false) ≡ true
    by true true true e f g = refl
    by true true false e f g = absurd (clash (sym g))
    by true false r e f g = absurd (clash (sym f))
    by false q r e f g = absurd (clash (sym e))

session_over : (c o h : ℕ) → is_ending (change.Ends (gone.Session c o) false ∷ []) (place c o h) ≡ true
session_over c o h = by (c == c) (o == o) (eq-eqb c c refl) (eq-eqb o o refl)
  where
    by : (p q : Bool) → p ≡ true → q ≡ true → ((p && q) || false) ≡ true
    by true true e f = refl
    by true false e f = absurd (clash (sym f))
    by false q e f = absurd (clash (sym e))

conn_over : (c o h : ℕ) → is_ending (lost c ∷ []) (place c o h) ≡ true
conn_over c o h = by (c == c) (eq-eqb c c refl)
  where
    by : (p : Bool) → p ≡ true → (p || false) ≡ true
    by true e = refl
    by false e = absurd (clash (sym e))

-- a first frame that is taken

record IsNew (b : BookView) (t : Trace) (c o h : ℕ) (x : Transfer) : Type 0 where
  named : is_anonymous x ≡ false
  fresh : is_among (is_claimed t c o) x.delivery_id ≡ false
  unrepeated : repeats b t c o h x.resume (durable_key (link t c o h)) (tag_in x) ≡ false

abbrev EndsOr : BookView → Trace → ℕ → ℕ → ℕ → Transfer → Item → Answer → Type 0
EndsOr b t c o h x i y = (is_ending (ended_by t c i y) (place c o h) ≡ true) ⊎ IsNew b t c o h x

last_false : (p q : Bool) → p ≡ true → (p && q) ≡ false → q ≡ false
last_false true q e f = f
last_false false q e f = absurd (clash (sym e))

-- by what its handle stands for, the link's state, and the session
answer_new : (full : Bool) (b : BookView) (t : Trace) (c : ℕ) (p : Conn) (channel : ℕ) (x : Transfer) (payload : List ℕ) (o h : ℕ) (l : Link) (list : Received)
    → theirs t c channel ≡ Some (Mapped o) → their_handle t c o x.handle ≡ Some (handle.Mapped h) → link t c o h ≡ Some l → l.happened ≡ receives list → middle list ≡ []
    → EndsOr b t c o h x (item.Frame false channel (perf.Transfer x) payload) (answer_at full b t c p (item.Frame false channel (perf.Transfer x) payload))
answer_new full b t c p channel x payload o h l list mapped on_handle there receiving none = by_turn (frame_in_turn channel p)
  where
    i : Item
    i = item.Frame false channel (perf.Transfer x) payload

    Is : Answer → Type 0
    Is y = EndsOr b t c o h x i (booked_transfer b t c x y)

    at_place : link_place t c o x.handle ≡ on h l
    at_place = ap (λ (v : Option PeerHandle). link_place_by v (link t c o)) on_handle ∙ ap (on_link h) there

    none_told : middle_by (receives list) ≡ None
    none_told = ap told_first none

    taken : is_anonymous x ≡ false → is_among (is_claimed t c o) x.delivery_id ≡ false → Is (Taken o h)
    taken named fresh =
        by_test (is_none (middle_on (link_place t c o x.handle)) && repeats b t c o h x.resume (durable_key (link t c o h)) (tag_in x))
        (λ e. rw e (inl (link_over c o h false)))
        (λ e. rw e (inr (record {
          named = named;
          fresh = fresh;
          unrepeated = last_false (is_none (middle_on (link_place t c o x.handle))) (repeats b t c o h x.resume (durable_key (link t c o h)) (tag_in x))
              (ap (λ (z : LinkPlace). is_none (middle_on z)) at_place ∙ ap (λ (w : Happened). is_none (middle_by w)) receiving ∙ ap (λ (m : Option Told). is_none m) none_told) e;
        })))

    started : Is (start_on o h l.durable (unused list) (is_claimed t c o) x)
    started =
        by_test (is_anonymous x) (λ e. rw e (inl (link_over c o h (not l.durable))))
        (λ e. rw e (by_test (is_among (is_claimed t c o) x.delivery_id) (λ f. rw f (inl (session_over c o h)))
        (λ f. rw f (by_test (nat_eq (unused list) 0) (λ g. rw g (inl (link_over c o h (not l.durable)))) (λ g. rw g (taken e f))))))

    heard : Is (delivery_on o h l.durable (is_claimed t c o) l.happened x)
    heard =
        subst (λ (w : Happened). Is (delivery_on o h l.durable (is_claimed t c o) w x)) (sym receiving)
        (subst (λ (m : Option Told). Is (delivery_by o h l.durable (unused list) (is_claimed t c o) m x)) (sym none_told) started)

    by_session : (s : Session) → Is (session_transfer_reply o s (is_claimed t c o) (link_place t c o x.handle) x)
    by_session s =
        subst (λ (z : LinkPlace). Is (session_transfer_reply o s (is_claimed t c o) z x)) (sym at_place)
        (by_test (nat_eq (allowance s) 0) (λ e. rw e (inl (session_over c o h))) (λ e. rw e heard))

    by_place : (v : Option Session) → Is (transfer_reply (on_session o v) (link_place t c) (is_claimed t c) x)
    by_place None = inl (conn_over c o h)
    by_place (Some s) = by_session s

    by_fault : (f : ConnFault) → Is (out_of_turn f)
    by_fault ChannelTooHigh = inl (conn_over c o h)
    by_fault _ = inl (conn_over c o h)

    by_turn : (r : Result (Unit {0}) ConnFault) → Is (turn_by (finds t c) channel (perf.Transfer x) r)
    by_turn (Ok q) = subst (λ (v : Option PeerChannel). Is (transfer_reply (place_by v (session t c)) (link_place t c) (is_claimed t c) x)) (sym mapped) (by_place (session t c o))
    by_turn (Err f) = by_fault f

-- what follows of claims

tag_some : {A : Type 0} (bytes : A → List ℕ) (o : Option A) (q : Bool) → (if q then is_none o else true) ≡ false → is_some (option_map bytes o) ≡ true
tag_some bytes o false e = absurd (clash e)
tag_some bytes None true e = absurd (clash e)
tag_some bytes (Some a) true e = refl

unclaimed : (v : Option Claim) → is_some v ≡ false → v ≡ None
unclaimed None e = refl
unclaimed (Some v) e = absurd (clash e)

first_false : (p q : Bool) → (p || q) ≡ false → p ≡ false
first_false true q e = absurd (clash e)
first_false false q e = refl

serial_id : (x : Transfer) → is_anonymous x ≡ false → (k : ℕ) → x.delivery_id ≡ Some k → k < 2 ^ 32
serial_id x named k is = ltb-true k (2 ^ 32) (sym (ap is_serial is) ∙ by (is_serial x.delivery_id) refl named)
  where
    by : (q : Bool) → is_serial x.delivery_id ≡ q → (if q then is_none x.delivery_tag else true) ≡ false → is_serial x.delivery_id ≡ true
    by true e named = e
    by false e named = absurd (clash named)

new_begun : (b : BookView) (t : Trace) (c o h : ℕ) (x : Transfer) → Owned t [] → IsNew b t c o h x → Begun t c o h x
new_begun b t c o h x owned new = record {
  small = λ k named. serial_id x new.named k named;
  tagged = tag_some (λ tag. tag.items) x.delivery_tag (is_serial x.delivery_id) new.named;
  fresh = λ k named. unclaimed (claims t c o k) (sym (ap (is_among (is_claimed t c o)) named) ∙ new.fresh);
  unused = λ key tag k v durable tagged there on_link has. clash (sym (uses_it t c o h tag k v owned there on_link has) ∙ unused_tag key tag durable tagged);
}
  where
    unused_tag : (key : LinkKey) (tag : List ℕ) → durable_key (link t c o h) ≡ Some key → tag_in x ≡ Some tag → uses_tag t c o h tag ≡ false
    unused_tag key tag durable tagged =
        first_false (uses_tag t c o h tag) (not x.resume && stands_from (terminus_of key b.termini) tag b.rows)
        (sym (ap (repeats b t c o h x.resume (Some key)) tagged) ∙ sym (ap (λ (w : Option LinkKey). repeats b t c o h x.resume w (tag_in x)) durable) ∙ new.unrepeated)

-- for each first frame that comes

rest_free : (cs : List ℕ) (ys : List Change) (c o h : ℕ) → is_ending (map lost cs ++ ys) (place c o h) ≡ false → is_ending ys (place c o h) ≡ false
rest_free [] ys c o h free = free
rest_free (d ∷ cs) ys c o h free = rest_free cs ys c o h (second_false (ends_it (lost d) (place c o h)) (is_ending (map lost cs ++ ys) (place c o h)) free)
  where
    second_false : (p q : Bool) → (p || q) ≡ false → q ≡ false
    second_false true q e = absurd (clash e)
    second_false false q e = e

pub came_begun : (t : Trace) (s : Step) → refuses t s.event ≡ false → Owned t [] → CameBegun s t
came_begun t s taken owned c o h x first free = booked_begun (subst (λ (n : ℕ). Begun t n o h x) same (new_begun (book_in t) t d.0 o h x owned new))
  where
    booked_begun : Begun t c o h x → Begun (booked t s.event) c o h x
    booked_begun is = record { tagged = is.tagged; small = is.small; fresh = is.fresh; unused = is.unused }

    d : ConnectionId
    d = first.conn

    same : d.0 ≡ c
    same = eqb-true d.0 c first.here

    i : Item
    i = item.Frame false first.channel (perf.Transfer x) first.payload

    e : Event
    e = event.Item d i

    full : Bool
    full = finds_full (journaled t) t e

    there : link t d.0 o h ≡ Some first.at
    there = ap (λ (n : ℕ). link t n o h) same ∙ first.there

    spared : is_ending (map lost (due t e) ++ answer_rest t e) (place d.0 o h) ≡ false
    spared =
        ap (λ (n : ℕ). is_ending (map lost (due t e) ++ answer_rest t e) (place n o h)) same
        ∙ ap (λ (z : Event). is_ending (map lost (due t z) ++ answer_rest t z) (place c o h)) (sym first.came) ∙ free

    not_due : has d.0 (due t e) ≡ false
    not_due = by (has d.0 (due t e)) refl
      where
        by : (q : Bool) → has d.0 (due t e) ≡ q → q ≡ false
        by false f = refl
        by true f = absurd (clash (sym (lost_ending (due t e) (answer_rest t e) (place d.0 o h) f) ∙ spared))

    finds_it : standing (found t e d.0) ≡ standing (conn t d.0)
    finds_it = ap (λ (q : Bool). standing (if q then option_map ended (conn t d.0) else conn t d.0)) not_due

    ended_not : is_ending (ended_by t d.0 i (live_answer full (book_in t) t d.0 i (standing (conn t d.0)))) (place d.0 o h) ≡ false
    ended_not =
        ap (λ (v : Option Conn). is_ending (ended_by t d.0 i (live_answer full (book_in t) t d.0 i v)) (place d.0 o h)) (sym finds_it)
        ∙ rest_free (due t e) (answer_rest t e) d.0 o h spared

    mapped : (v : Option PeerChannel) → maps v o ≡ true → v ≡ Some (Mapped o)
    mapped None f = absurd cc
    mapped (Some Ending) f = absurd cc
    mapped (Some (Mapped n)) f = ap (λ (k : ℕ). Some (Mapped k)) (eqb-true n o f)

    live : is_live (conn t d.0) ≡ true
    live = by (is_live (conn t d.0)) (sym (ap (refuses t) first.came) ∙ taken)
      where
        by : (q : Bool) → not q ≡ false → q ≡ true
        by true f = refl
        by false f = absurd (clash f)

    new : IsNew (book_in t) t d.0 o h x
    new = by (standing (conn t d.0)) live ended_not
      where
        by : (v : Option Conn) → is_some v ≡ true → is_ending (ended_by t d.0 i (live_answer full (book_in t) t d.0 i v)) (place d.0 o h) ≡ false → IsNew (book_in t) t d.0 o h x
        by None some none = absurd (clash (sym some))
        by (Some p) some none =
            on_one (answer_new full (book_in t) t d.0 p first.channel x first.payload o h first.at first.list
            (mapped (theirs t d.0 first.channel) (ap (λ (n : ℕ). maps (theirs t n first.channel) o) same ∙ first.session))
            (ap (λ (n : ℕ). their_handle t n o x.handle) same ∙ first.on_handle) there first.receiving first.none)
          where
            on_one : EndsOr (book_in t) t d.0 o h x i (answer_at full (book_in t) t d.0 p i) → IsNew (book_in t) t d.0 o h x
            on_one (inl over) = absurd (clash (sym over ∙ none))
            on_one (inr is) = is
