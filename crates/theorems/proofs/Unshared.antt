-- A transfer that is taken and makes a resumed, settled delivery whole: on a durable link no other delivery claims its tag. A first frame is taken only if the link
-- doesn't use its tag; and the tag of the delivery in the middle of a link is claimed under that delivery's id alone.
use Rattle.std.proofs.Common.{◌≡◌, ◌∙◌, sym, ap, refl, ℕ, ◌^◌, Bool, true, false, not, ◌&&◌, ◌||◌, List, [], ◌∷◌}
use Rattle.std.specs.Prelude.{◌==◌, nat_eq, Option, Some, None, is_none, option_map, Result, Ok, Err, if◌then◌else◌}
use Rattle.std.proofs.lemmas.Bool.{eq-eqb}
use Rattle.std.proofs.lemmas.Slice.Eq.{bytes_eq-Decides}
use Rattle.amqp_model.specs.declared.perf.Perf.TheVariants as perf
use Rattle.amqp_model.specs.declared.perf.Transfer.{Transfer}
use Rattle.amqp_model.specs.declared.item.Item.TheVariants as item
use Rattle.amqp_conn.specs.declared.conn.Conn.{Conn}
use Rattle.amqp_conn.specs.declared.fault.ConnFault.{ConnFault}
use Rattle.amqp_conn.specs.declared.fault.ConnFault.TheVariants.{ChannelTooHigh}
use Rattle.amqp_conn.specs.Phase.{frame_in_turn}
use Rattle.amqp_link.specs.declared.part.Delivery.{Delivery as Told}
use Rattle.amqp_link.specs.Deliveries.{Frame, delivery as told_of, first}
use Rattle.amqp_link.specs.Receiving.{Received, middle, unused}
use Rattle.amqp_session.specs.Session.{Session, allowance}
use Rattle.book_model.specs.Book.{BookView, terminus_of}
use Rattle.book_model.specs.declared.terminus.LinkKey.{LinkKey}
use Rattle.router_trace.specs.declared.binding.Origin.{Origin}
use Rattle.router_trace.specs.declared.event.Event.{Event}
use Rattle.router_trace.specs.declared.event.Event.TheVariants as event
use Rattle.router_trace.specs.Trace.{Trace}
use Rattle.router_trace.specs.Connection.{found, standing}
use Rattle.router_trace.specs.Claims.{Claim, claims}
use Rattle.router_trace.specs.Deliveries.{tag_in}
use Rattle.router_trace.specs.Links.{Link, LinkPlace, nowhere, detaching, on, Happened, sends, receives, link, link_place, their_handle, durable_key}
use Rattle.router_trace.specs.Sessions.{Place}
use Rattle.router_trace.specs.Sessions as place
use Rattle.router_trace.specs.Settling.{is_claimed, is_tagged_on, middle_by, middle_on, told_first, uses_tag}
use Rattle.reply_rows.specs.declared.answer.Answer.{Answer}
use Rattle.reply_rows.specs.declared.answer.Answer.TheVariants.{Taken}
use Rattle.reply_rows.specs.Rows.{out_of_turn, transfer_reply, turn_by}
use Rattle.reply_rows.specs.LinkRows.{is_anonymous, is_among, is_same_id, is_same_tag, continue_on, delivery_by, delivery_on, session_transfer_reply, start_on}
use Rattle.reply_rows.specs.Booking.{repeats, stands_from, booked_transfer, answer_at}
use Rattle.reply_rows.specs.Finding.{finds}
use Rattle.reply_rows.specs.Acts.{event_answer, live_answer}
use Rattle.reply_rows.specs.Joining.{settled_whole}
use Rattle.state_connections.proofs.Lists.{by_test}
use Rattle.state_deliveries.proofs.Unsent.{first_there}
use Rattle.theorems.proofs.Claimed.{HasClaim}
use Rattle.theorems.proofs.Middles.{Said, said_in, said_by, said_first, said_of, on_place}
use Rattle.theorems.proofs.Owning.{Owned}
use Rattle.theorems.proofs.Tests.{none_not_some}

clash : true ≡ false → ⊥
clash e = cc

-- no unsettled delivery of a link has the tag
abbrev pub IsUnshared : Trace → ℕ → ℕ → ℕ → List ℕ → Type 0
IsUnshared t c own h tag = (p : Origin) → p.link.conn.0 ≡ c → p.link.channel ≡ own → p.link.handle ≡ h → HasClaim t p tag → ⊥

-- of the delivery that a transfer with this answer settles
abbrev pub SettlesUnshared : Trace → ℕ → Transfer → Answer → Type 0
SettlesUnshared t c x (Taken own h) =
    (key : LinkKey) (tag : List ℕ) → durable_key (link t c own h) ≡ Some key → settled_whole x (middle_on (link_place t c own x.handle)) ≡ Some tag → IsUnshared t c own h tag
SettlesUnshared t c x _ = Unit {0}

-- a claim uses its tag
pub uses_it : (t : Trace) (c o h : ℕ) (tag : List ℕ) (k : ℕ) (v : Claim) → Owned t [] → claims t c o k ≡ Some v → v.handle ≡ h → v.tag ≡ Some tag → uses_tag t c o h tag ≡ true
uses_it t c o h tag k v owned there on_link has =
    first_there (2 ^ 32) (λ id. is_tagged_on h tag (claims t c o id)) k (owned.ids c o k v refl there)
    (ap (is_tagged_on h tag) there ∙ is_tagged v.handle v.tag (eq-eqb v.handle h on_link) has)
  where
    is_tagged : (g : ℕ) (own : Option (List ℕ)) → (g == h) ≡ true → own ≡ Some tag → is_tagged_on h tag (Some (record { handle = g; unbound = false; tag = own })) ≡ true
    is_tagged g own e f = rw (e, f) ((bytes_eq-Decides tag tag).1 refl)

-- the claim of an origin on a link
record ClaimOn (t : Trace) (c own h k : ℕ) (tag : List ℕ) : Type 0 where
  claim : Claim
  there : claims t c own k ≡ Some claim
  on_link : claim.handle ≡ h
  tagged : claim.tag ≡ Some tag

claim_on : (t : Trace) (c own h : ℕ) (tag : List ℕ) (p : Origin) → p.link.conn.0 ≡ c → p.link.channel ≡ own → p.link.handle ≡ h → HasClaim t p tag → ClaimOn t c own h p.id tag
claim_on t c own h tag p conn channel handle has = record {
  claim = has.claim;
  there = ap (λ (k : ℕ). claims t k own p.id) (sym conn) ∙ ap (λ (k : ℕ). claims t p.link.conn.0 k p.id) (sym channel) ∙ has.there;
  on_link = has.on_link ∙ handle;
  tagged = has.tagged;
}

-- what is settled is as its first frame says
first_tag : (q r : Bool) (v : Option (List ℕ)) (tag : List ℕ) → (if q then None else if r then v else None) ≡ Some tag → v ≡ Some tag
first_tag true r v tag is = absurd (none_not_some is)
first_tag false true v tag is = is
first_tag false false v tag is = absurd (none_not_some is)

-- a first frame
new_unshared : (b : BookView) (t : Trace) (c own h : ℕ) (x : Transfer) (key : LinkKey) (tag : List ℕ) → Owned t [] → durable_key (link t c own h) ≡ Some key
    → repeats b t c own h x.resume (durable_key (link t c own h)) (tag_in x) ≡ false → tag_in x ≡ Some tag → IsUnshared t c own h tag
new_unshared b t c own h x key tag owned durable unrepeated tagged p conn channel handle has =
    let claim = claim_on t c own h tag p conn channel handle has in
    clash (sym (uses_it t c own h tag p.id claim.claim owned claim.there claim.on_link claim.tagged) ∙ unused_tag)
  where
    first_false : (p q : Bool) → (p || q) ≡ false → p ≡ false
    first_false true q e = absurd (clash e)
    first_false false q e = refl

    unused_tag : uses_tag t c own h tag ≡ false
    unused_tag =
        first_false (uses_tag t c own h tag) (not x.resume && stands_from (terminus_of key b.termini) tag b.rows)
        (sym (ap (repeats b t c own h x.resume (Some key)) tagged) ∙ sym (ap (λ (w : Option LinkKey). repeats b t c own h x.resume w (tag_in x)) durable) ∙ unrepeated)

-- a later frame
middle_unshared : (t : Trace) (c own h : ℕ) (said : Said) (key : LinkKey) (tag : List ℕ) → Owned t [] → durable_key (link t c own h) ≡ Some key
    → said_of (link t c own h) ≡ Some said → said.tag ≡ Some tag → IsUnshared t c own h tag
middle_unshared t c own h said key tag owned durable is tagged p conn channel handle has =
    let claim = claim_on t c own h tag p conn channel handle has in
    has.apart said
    (ap (λ (k : ℕ). said_of (link t k p.link.channel p.link.handle)) conn ∙ ap (λ (k : ℕ). said_of (link t c k p.link.handle)) channel ∙ ap (λ (k : ℕ). said_of (link t c own k)) handle ∙ is)
    (owned.alone c own h p.id said claim.claim key tag refl durable is claim.there claim.on_link tagged claim.tagged)

-- by what its handle stands for, the link's state, and the session
pub transfer_unshared : (full : Bool) (b : BookView) (t : Trace) (c : ℕ) (q : Conn) (channel : ℕ) (x : Transfer) (payload : List ℕ) → Owned t []
    → SettlesUnshared t c x (answer_at full b t c q (item.Frame false channel (perf.Transfer x) payload))
transfer_unshared full b t c q channel x payload owned = by_turn (frame_in_turn channel q)
  where
    Is : Answer → Type 0
    Is y = SettlesUnshared t c x (booked_transfer b t c x y)

    -- the delivery is in the middle, or begins
    goes_on_unshared : (o h : ℕ) (l : Link) (list : Received) (f : Frame) (fs : List Frame) → link_place t c o x.handle ≡ on h l → l.happened ≡ receives list → middle list ≡ f ∷ fs
        → SettlesUnshared t c x (Taken o h)
    goes_on_unshared o h l list f fs at receiving m key tag durable settled =
        middle_unshared t c o h (said_in (first f fs).transfer) key tag owned durable
        (ap said_of (on_place t c o h l (their_handle t c o x.handle) at).1 ∙ ap said_by receiving ∙ ap said_first m)
        (first_tag (x.more || x.aborted) ((told_of f fs).resume && (x.settled || (told_of f fs).settled)) (tag_in (first f fs).transfer) tag
        (ap (settled_whole x) (sym (ap middle_on at ∙ ap middle_by receiving ∙ ap told_first m)) ∙ settled))

    begins_unshared : (o h : ℕ) (l : Link) (list : Received) → link_place t c o x.handle ≡ on h l → l.happened ≡ receives list → middle list ≡ []
        → repeats b t c o h x.resume (durable_key (link t c o h)) (tag_in x) ≡ false → SettlesUnshared t c x (Taken o h)
    begins_unshared o h l list at receiving m unrepeated key tag durable settled =
        new_unshared b t c o h x key tag owned durable unrepeated
        (first_tag (x.more || x.aborted) (x.resume && x.settled) (tag_in x) tag (ap (settled_whole x) (sym (ap middle_on at ∙ ap middle_by receiving ∙ ap told_first m)) ∙ settled))

    -- it is taken
    taken : (o h : ℕ) (l : Link) (list : Received) → link_place t c o x.handle ≡ on h l → l.happened ≡ receives list → (fs : List Frame) → middle list ≡ fs → Is (Taken o h)
    taken o h l list at receiving fs m =
        by_test (is_none (middle_on (link_place t c o x.handle)) && repeats b t c o h x.resume (durable_key (link t c o h)) (tag_in x)) (λ e. rw e tt) (λ e. rw e (by fs m e))
      where
        last_false : (p q : Bool) → p ≡ true → (p && q) ≡ false → q ≡ false
        last_false true q e f = f
        last_false false q e f = absurd (clash (sym e))

        by : (fs : List Frame) → middle list ≡ fs → (is_none (middle_on (link_place t c o x.handle)) && repeats b t c o h x.resume (durable_key (link t c o h)) (tag_in x)) ≡ false
            → SettlesUnshared t c x (Taken o h)
        by [] m e =
            begins_unshared o h l list at receiving m
            (last_false (is_none (middle_on (link_place t c o x.handle))) (repeats b t c o h x.resume (durable_key (link t c o h)) (tag_in x))
            (ap (λ (v : Option Told). is_none v) (ap middle_on at ∙ ap middle_by receiving ∙ ap told_first m)) e)
        by (f ∷ gs) m e = goes_on_unshared o h l list f gs at receiving m

    started : (o h : ℕ) (l : Link) (list : Received) → link_place t c o x.handle ≡ on h l → l.happened ≡ receives list → middle list ≡ []
        → Is (start_on o h l.durable (unused list) (is_claimed t c o) x)
    started o h l list at receiving m =
        by_test (is_anonymous x) (λ e. rw e tt)
        (λ e. rw e (by_test (is_among (is_claimed t c o) x.delivery_id) (λ f. rw f tt)
        (λ f. rw f (by_test (nat_eq (unused list) 0) (λ g. rw g tt) (λ g. rw g (taken o h l list at receiving [] m))))))

    continued : (o h : ℕ) (l : Link) (list : Received) (f : Frame) (fs : List Frame) → link_place t c o x.handle ≡ on h l → l.happened ≡ receives list → middle list ≡ f ∷ fs
        → Is (continue_on o h l.durable (told_of f fs) x)
    continued o h l list f fs at receiving m =
        by_test (is_same_id x.delivery_id (told_of f fs).id && is_same_tag (tag_in x) (option_map (λ tag. tag.items) (told_of f fs).tag))
        (λ e. rw e (taken o h l list at receiving (f ∷ fs) m)) (λ e. rw e tt)

    by_middle : (o h : ℕ) (l : Link) (list : Received) → link_place t c o x.handle ≡ on h l → l.happened ≡ receives list → (fs : List Frame) → middle list ≡ fs
        → Is (delivery_by o h l.durable (unused list) (is_claimed t c o) (told_first fs) x)
    by_middle o h l list at receiving [] m = started o h l list at receiving m
    by_middle o h l list at receiving (f ∷ fs) m = continued o h l list f fs at receiving m

    by_happened : (o h : ℕ) (l : Link) → link_place t c o x.handle ≡ on h l → (w : Happened) → l.happened ≡ w → Is (delivery_on o h l.durable (is_claimed t c o) w x)
    by_happened o h l at (sends list) e = tt
    by_happened o h l at (receives list) e = by_middle o h l list at e (middle list) refl

    by_link : (o : ℕ) (s : Session) (z : LinkPlace) → link_place t c o x.handle ≡ z → Is (session_transfer_reply o s (is_claimed t c o) z x)
    by_link o s nowhere at = tt
    by_link o s detaching at = by_test (nat_eq (allowance s) 0) (λ e. rw e tt) (λ e. rw e tt)
    by_link o s (on h l) at = by_test (nat_eq (allowance s) 0) (λ e. rw e tt) (λ e. rw e (by_happened o h l at l.happened refl))

    by_place : (z : Place) → Is (transfer_reply z (link_place t c) (is_claimed t c) x)
    by_place place.nowhere = tt
    by_place place.ending = tt
    by_place (place.on o s) = by_link o s (link_place t c o x.handle) refl

    by_fault : (f : ConnFault) → Is (out_of_turn f)
    by_fault ChannelTooHigh = tt
    by_fault _ = tt

    by_turn : (r : Result (Unit {0}) ConnFault) → Is (turn_by (finds t c) channel (perf.Transfer x) r)
    by_turn (Ok u) = by_place ((finds t c).places channel)
    by_turn (Err f) = by_fault f

-- the answer to a transfer, by what its event finds of its connection
pub answer_unshared : (full : Bool) (b : BookView) (t : Trace) (c channel : ℕ) (x : Transfer) (payload : List ℕ) (v : Option Conn) → Owned t []
    → SettlesUnshared t c x (live_answer full b t c (item.Frame false channel (perf.Transfer x) payload) v)
answer_unshared full b t c channel x payload None owned = tt
answer_unshared full b t c channel x payload (Some q) owned = transfer_unshared full b t c q channel x payload owned

-- and of events
abbrev pub EventUnshared : Trace → Event → Answer → Type 0
EventUnshared t (event.Item c (item.Frame false channel (perf.Transfer x) payload)) answer = SettlesUnshared t c.0 x answer
EventUnshared t _ answer = Unit {0}

pub event_unshared : (full : Bool) (b : BookView) (t : Trace) (e : Event) → Owned t [] → EventUnshared t e (event_answer full b t e)
event_unshared full b t (event.Item c (item.Frame false channel (perf.Transfer x) payload)) owned =
    answer_unshared full b t c.0 channel x payload (standing (found t (event.Item c (item.Frame false channel (perf.Transfer x) payload)) c.0)) owned
event_unshared full b t (event.Item c (item.Frame false channel _ payload)) owned = tt
event_unshared full b t (event.Item c (item.Frame true channel body payload)) owned = tt
event_unshared full b t (event.Item c _) owned = tt
event_unshared full b t _ owned = tt
