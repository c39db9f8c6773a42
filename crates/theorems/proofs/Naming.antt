-- As long as numbers are small, each id of an undecided delivery names it: the router gives no id again that names an undecided one.
use Rattle.std.proofs.Common.{◌≡◌, ◌∙◌, sym, ap, refl, subst, ℕ, ◌+◌, Bool, true, false, not, ◌&&◌, ◌||◌, List, [], ◌∷◌, length}
use Rattle.std.specs.Prelude.{◌==◌, Option, Some, None, is_none, is_some, if◌then◌else◌, option_and_then}
use Rattle.std.proofs.lemmas.Bool.{eqb-true, eq-eqb}
use Rattle.amqp_model.specs.declared.perf.Perf.{Perf}
use Rattle.amqp_model.specs.declared.perf.Perf.TheVariants as perf
use Rattle.amqp_model.specs.declared.perf.Role.{Role}
use Rattle.amqp_model.specs.declared.perf.Role.TheVariants.{Sender, Receiver}
use Rattle.amqp_model.specs.declared.perf.Transfer.{Transfer}
use Rattle.amqp_model.specs.declared.item.Item.{Item}
use Rattle.amqp_model.specs.declared.item.Item.TheVariants as item
use Rattle.amqp_model.specs.Room.{transfer_frame}
use Rattle.router_trace.specs.declared.binding.Binding.{Binding}
use Rattle.router_trace.specs.declared.binding.DeliveryName.{DeliveryName}
use Rattle.router_trace.specs.declared.handle.Attachment.{Attachment}
use Rattle.router_trace.specs.Trace.{Entry, Did, Out, Bound, Put, Step}
use Rattle.router_trace.specs.Links.{Link, is_lost, ends_handle_in, ends_handle, numbered}
use Rattle.router_trace.specs.LinkFrames.{fits}
use Rattle.router_trace.specs.Peers.{largest_frame}
use Rattle.router_trace.specs.Sessions.{session}
use Rattle.router_trace.specs.DeliveryFrames.{first_transfer, later_transfer, with_more, part_frame, filled, next_frame, largest_out, rest_of}
use Rattle.router_trace.specs.Following.{link_of, is_busy, is_open, is_used, is_going, is_there, is_wide, goes_on_at, takes_more, can_start, can_go, place_to_go, transfer_of, send, send_of, sends_due}
use Rattle.router_trace.specs.Deliveries.{Delivery, bindings, number_named, number_tagged, delivery, sending, named, named_in, named_by, next_id, is_id, carried, tag_in, tag_of, tagged, is_number, is_undecided, after_frame, put_in, after_put, after_event, ended_by, closes, source, told, is_meant, origin_id, untold, unsettled, channels_found, acts_found, rank_at}
use Rattle.state_deliveries.proofs.Called.{there_named}
use Rattle.state_deliveries.proofs.Puts.{no_ends}
use Rattle.state_connections.proofs.Lists.{by_test}
use Rattle.router_core.proofs.Due.{both_true, placed_elim}
use Rattle.theorems.specs.Carried.{HasSmallNumbers}
use Rattle.theorems.proofs.Bindings.{of_what}
use Rattle.theorems.proofs.Followed.{Left, event_left, ends_left}
use Rattle.theorems.proofs.Names.{NamesTold, names_told}
use Rattle.theorems.proofs.Outcomes.{number_is}
use Rattle.theorems.proofs.Rebound.{AfterBound, after_bound, held_id, held_link, held_undecided}
use Rattle.theorems.proofs.Rebound.AfterBound.{is_new, is_joined, is_old}
use Rattle.theorems.proofs.Tests.{some_same, none_not_some}
use Rattle.theorems.proofs.Undecided.{Was, was_did, was_out}

clash : true ≡ false → ⊥
clash e = cc

abbrev pub AreNamed : List Entry → Type 0
AreNamed t = (n id : ℕ) (d : Delivery) → delivery t n ≡ Some d → is_undecided d ≡ true → d.id ≡ Some id → named t d.link.conn.0 d.link.channel id ≡ Some n

-- events, and items other than transfers, leave ids

abbrev SameId : Delivery → Delivery → Type 0
SameId d e = e.id ≡ d.id

same_id : Left SameId
same_id = record {
  same = λ d. refl;
  next = λ d e f first rest. rest ∙ first;
  untold = λ d. refl;
  forsaken = λ d. refl;
  unsettled = λ d. refl;
  ended = λ d. refl;
  suspended = λ d. refl;
  decided = λ d s. refl;
}

pub did_named : (s : Step) (t : List Entry) → AreNamed t → AreNamed (Did s ∷ t)
did_named s t was n id e now undecided has =
    let before = of_what (after_event s.event (channels_found t) (named t) (acts_found t) n) (delivery t n) e now in
    let w = was_did s t n e now in
    let same : w.before ≡ before.0 = some_same (sym w.there ∙ before.1) in
    let had : w.before.id ≡ Some id = ap (λ (d : Delivery). d.id) same ∙ sym (event_left SameId same_id s.event (channels_found t) (named t) (acts_found t) n before.0) ∙ sym (ap (λ (d : Delivery). d.id) before.2) ∙ has in
    let spared : is_lost s.event w.before.link.conn.0 ≡ false = w.spares undecided in
    let named_it : named t w.before.link.conn.0 w.before.link.channel id ≡ Some n = was n id w.before w.there (w.undecided undecided) had in
    subst (λ (a : Attachment). named (Did s ∷ t) a.conn.0 a.channel id ≡ Some n) (sym w.follows.link)
    (ap (λ (b : Bool). if b then None else named t w.before.link.conn.0 w.before.link.channel id) spared ∙ named_it)

-- what an item makes of names, unless it is a transfer

abbrev pub is_sent_in : Perf → Bool
is_sent_in (perf.Transfer x) = true
is_sent_in _ = false

abbrev pub is_sent : Item → Bool
is_sent (item.Frame sasl own body payload) = is_sent_in body
is_sent _ = false

perf_names : (numbers : DeliveryName → Option ℕ) (body : Perf) (own o h id : ℕ) (v : Option ℕ) → is_sent_in body ≡ false → ends_handle_in body own o h ≡ false → named_in numbers body own o id v ≡ v
perf_names numbers (perf.Transfer x) own o h id v quiet spared = absurd (clash quiet)
perf_names numbers (perf.End x) own o h id v quiet spared = rw spared refl
perf_names numbers (perf.Close x) own o h id v quiet spared = absurd (clash spared)
perf_names numbers _ own o h id v quiet spared = refl

item_names : (numbers : DeliveryName → Option ℕ) (i : Item) (o h id : ℕ) (v : Option ℕ) → is_sent i ≡ false → ends_handle i o h ≡ false → named_by numbers i o id v ≡ v
item_names numbers (item.Frame sasl own body payload) o h id v quiet spared = perf_names numbers body own o h id v quiet spared
item_names numbers _ o h id v quiet spared = refl

perf_id : (numbers : DeliveryName → Option ℕ) (body : Perf) (c own n : ℕ) (sent : ℕ → ℕ → Option ℕ) (count : ℕ) (d : Delivery) → is_sent_in body ≡ false → (put_in numbers body c own n sent count d).id ≡ d.id
perf_id numbers (perf.Transfer x) c own n sent count d quiet = absurd (clash quiet)
perf_id numbers (perf.Disposition x) c own n sent count d quiet = role x.role
  where
    either : (b s : Bool) → (if b then (if s then untold d else unsettled d) else d).id ≡ d.id
    either true true = refl
    either true false = refl
    either false s = refl

    role : (r : Role) → (told r x c own d).id ≡ d.id
    role Receiver = either (is_meant x (origin_id (source d) c own)) x.settled
    role Sender = refl
perf_id numbers _ c own n sent count d quiet = refl

item_id : (numbers : DeliveryName → Option ℕ) (i : Item) (c n : ℕ) (sent : ℕ → ℕ → Option ℕ) (d : Delivery) → is_sent i ≡ false → (after_put numbers i c n sent d).id ≡ d.id
item_id numbers (item.Frame sasl own body payload) c n sent d quiet =
    ends_left SameId same_id (closes body) (ended_by (item.Frame sasl own body payload) c) (put_in numbers body c own n sent (length payload) d)
    ∙ perf_id numbers body c own n sent (length payload) d quiet
item_id numbers _ c n sent d quiet = refl

-- names after an item, on the session of a link that it doesn't end
stays_named : (c : ℕ) (i : Item) (t : List Entry) (a : Attachment) (id n : ℕ) → is_sent i ≡ false → ended_by i c a ≡ false → named t a.conn.0 a.channel id ≡ Some n → named (Out c i ∷ t) a.conn.0 a.channel id ≡ Some n
stays_named c i t a id n quiet spared is =
    by_test (c == a.conn.0)
    (λ e. rw e (item_names (number_named t) i a.channel a.handle id (named t a.conn.0 a.channel id) quiet (here e) ∙ is))
    (λ e. rw e is)
  where
    here : (c == a.conn.0) ≡ true → ends_handle i a.channel a.handle ≡ false
    here e = by (a.conn.0 == c) (eq-eqb a.conn.0 c (sym (eqb-true c a.conn.0 e))) spared
      where
        by : (b : Bool) → b ≡ true → (b && ends_handle i a.channel a.handle) ≡ false → ends_handle i a.channel a.handle ≡ false
        by true f h = h
        by false f h = absurd (clash (sym f))

pub out_named : (c : ℕ) (i : Item) (t : List Entry) → is_sent i ≡ false → AreNamed t → AreNamed (Out c i ∷ t)
out_named c i t quiet was n id e now undecided has =
    let before = of_what (after_put (number_named t) i c n (sending t c)) (delivery t n) e now in
    let w = was_out c i t n e now in
    let same : w.before ≡ before.0 = some_same (sym w.there ∙ before.1) in
    let had : w.before.id ≡ Some id = ap (λ (d : Delivery). d.id) same ∙ sym (item_id (number_named t) i c n (sending t c) before.0 quiet) ∙ sym (ap (λ (d : Delivery). d.id) before.2) ∙ has in
    subst (λ (a : Attachment). named (Out c i ∷ t) a.conn.0 a.channel id ≡ Some n) (sym w.follows.link)
    (stays_named c i t w.before.link id n quiet (w.spares undecided) (was n id w.before w.there (w.undecided undecided) had))

pub bound_named : (b : Binding) (t : List Entry) → AreNamed t → AreNamed (Bound b ∷ t)
bound_named b t was n id d now undecided has =
    by (after_bound b t n d now)
  where
    by : AfterBound b t n d → named (Bound b ∷ t) d.link.conn.0 d.link.channel id ≡ Some n
    by (is_new new) = absurd (none_not_some (ap (λ (x : Delivery). x.id) new.is ∙ has))
    by (is_joined joins) =
        subst (λ (a : Attachment). named t a.conn.0 a.channel id ≡ Some n) (sym (held_link joins.holding joins.before) ∙ ap (λ (x : Delivery). x.link) joins.is)
        (was n id joins.before joins.there (sym (held_undecided joins.holding joins.before) ∙ ap is_undecided joins.is ∙ undecided)
        (sym (held_id joins.holding joins.before) ∙ ap (λ (x : Delivery). x.id) joins.is ∙ has))
    by (is_old there) = was n id d there undecided has

-- A transfer that is due: it carries this delivery; if it has an id, the delivery has none yet, the id will name it, and names no undecided one.
pub record IsNaming (t : List Entry) (n : ℕ) (d : Delivery) (x : Transfer) : Type 0 where
  pub carries : carried (number_named t) (tag_in x) (sending t d.link.conn.0 d.link.channel x.handle) ≡ Some n
  pub fresh : (id : ℕ) → x.delivery_id ≡ Some id → d.id ≡ None
  pub tells : (id : ℕ) → x.delivery_id ≡ Some id → option_and_then (number_tagged (number_named t)) (tag_in x) ≡ Some n
  pub unused : (id : ℕ) → x.delivery_id ≡ Some id → is_used t (named t d.link.conn.0 d.link.channel id) ≡ false

with_more_too : (t : List Entry) (n : ℕ) (d : Delivery) (x : Transfer) → IsNaming t n d x → IsNaming t n d (with_more x)
with_more_too t n d x is = record { carries = is.carries; fresh = is.fresh; tells = is.tells; unused = is.unused }

-- after a frame

never_ends : (b : Bool) → (b && false) ≡ false
never_ends true = refl
never_ends false = refl

id_after : (x : Transfer) (count : ℕ) (d : Delivery) (b : Bool) → (if b then after_frame x count d else d).id ≡ (if b then (if is_none d.id then x.delivery_id else d.id) else d.id)
id_after x count d true = refl
id_after x count d false = refl

pub sent_named : (t : List Entry) (m : ℕ) (of : Delivery) (sasl : Bool) (x : Transfer) (payload : List ℕ) → delivery t m ≡ Some of → IsNaming t m of x → AreNamed t
    → AreNamed (Out of.link.conn.0 (item.Frame sasl of.link.channel (perf.Transfer x) payload) ∷ t)
sent_named t m of sasl x payload here is was n id e now undecided has = by x.delivery_id refl
  where
    c : ℕ
    c = of.link.conn.0

    own : ℕ
    own = of.link.channel

    i : Item
    i = item.Frame sasl own (perf.Transfer x) payload

    w : Was (ended_by i c) t n e
    w = was_out c i t n e now

    before : (d : Delivery) × (delivery t n ≡ Some d) × (e ≡ after_put (number_named t) i c n (sending t c) d)
    before = of_what (after_put (number_named t) i c n (sending t c)) (delivery t n) e now

    same : before.0 ≡ w.before
    same = some_same (sym before.1 ∙ w.there)

    id_is : e.id ≡ (if is_number (carried (number_named t) (tag_in x) (sending t c own x.handle)) n then (if is_none w.before.id then x.delivery_id else w.before.id) else w.before.id)
    id_is =
        ap (λ (f : Delivery). f.id) (before.2 ∙ no_ends false (ended_by i c) (λ a. never_ends (a.conn.0 == c)) (put_in (number_named t) (perf.Transfer x) c own n (sending t c) (length payload) before.0))
        ∙ id_after x (length payload) before.0 (is_number (carried (number_named t) (tag_in x) (sending t c own x.handle)) n)
        ∙ ap (λ (d : Delivery). if is_number (carried (number_named t) (tag_in x) (sending t c own x.handle)) n then (if is_none d.id then x.delivery_id else d.id) else d.id) same

    id_of : e.id ≡ (if m == n then (if is_none w.before.id then x.delivery_id else w.before.id) else w.before.id)
    id_of = id_is ∙ ap (λ (v : Option ℕ). if is_number v n then (if is_none w.before.id then x.delivery_id else w.before.id) else w.before.id) is.carries

    Goal : Type 0
    Goal = named (Out c i ∷ t) e.link.conn.0 e.link.channel id ≡ Some n

    moved : named (Out c i ∷ t) w.before.link.conn.0 w.before.link.channel id ≡ Some n → Goal
    moved is = subst (λ (a : Attachment). named (Out c i ∷ t) a.conn.0 a.channel id ≡ Some n) (sym w.follows.link) is

    -- what the item makes of a name
    shown : (v : Option ℕ) → x.delivery_id ≡ v → (k o : ℕ) → named (Out c i ∷ t) k o id
        ≡ (if c == k then (if own == o then (if is_id v id then option_and_then (number_tagged (number_named t)) (tag_in x) else named t k o id) else named t k o id) else named t k o id)
    shown v is k o = ap (λ (u : Option ℕ). if c == k then (if own == o then (if is_id u id then option_and_then (number_tagged (number_named t)) (tag_in x) else named t k o id) else named t k o id) else named t k o id) is

    quiet : (a b : Bool) (v w : Option ℕ) (q : Bool) → q ≡ false → (if a then (if b then (if q then v else w) else w) else w) ≡ w
    quiet true true v w false e = refl
    quiet true true v w true e = absurd (clash e)
    quiet true false v w q e = refl
    quiet false b v w q e = refl

    -- it had the id before
    had : w.before.id ≡ Some id → (v : Option ℕ) → x.delivery_id ≡ v → Goal
    had was_id v none =
        moved (shown v none w.before.link.conn.0 w.before.link.channel ∙ test (is_id v id) refl)
      where
        names_it : named t w.before.link.conn.0 w.before.link.channel id ≡ Some n
        names_it = was n id w.before w.there (w.undecided undecided) was_id

        other : (v : Option ℕ) → x.delivery_id ≡ v → is_id v id ≡ true → x.delivery_id ≡ Some id
        other None e f = absurd (clash (sym f))
        other (Some k) e f = e ∙ ap (λ (j : ℕ). Some j) (eqb-true k id f)

        open_there : is_open (delivery t n) ≡ true
        open_there = ap is_open w.there ∙ w.undecided undecided

        used : (c == w.before.link.conn.0) ≡ true → (own == w.before.link.channel) ≡ true → is_used t (named t c own id) ≡ true
        used f g =
            ap (λ (k : ℕ). is_used t (named t k own id)) (eqb-true c w.before.link.conn.0 f)
            ∙ ap (λ (k : ℕ). is_used t (named t w.before.link.conn.0 k id)) (eqb-true own w.before.link.channel g) ∙ ap (is_used t) names_it ∙ open_there

        test : (q : Bool) → is_id v id ≡ q
            → (if c == w.before.link.conn.0 then (if own == w.before.link.channel then (if is_id v id then option_and_then (number_tagged (number_named t)) (tag_in x)
            else named t w.before.link.conn.0 w.before.link.channel id) else named t w.before.link.conn.0 w.before.link.channel id) else named t w.before.link.conn.0 w.before.link.channel id) ≡ Some n
        test false f = quiet (c == w.before.link.conn.0) (own == w.before.link.channel) _ (named t w.before.link.conn.0 w.before.link.channel id) (is_id v id) f ∙ names_it
        test true f =
            by_test (c == w.before.link.conn.0)
            (λ g. by_test (own == w.before.link.channel)
            (λ h. absurd (clash (sym (used g h) ∙ is.unused id (other v none f))))
            (λ h. rw (g, h) names_it))
            (λ g. rw g names_it)

    -- it gets the id now
    now_named : (m == n) ≡ true → x.delivery_id ≡ Some id → Goal
    now_named f gives =
        let number : m ≡ n = eqb-true m n f in
        let one : of ≡ w.before = some_same (sym here ∙ ap (delivery t) number ∙ w.there) in
        let link : w.before.link ≡ of.link = ap (λ (d : Delivery). d.link) (sym one) in
        moved (subst (λ (a : Attachment). named (Out c i ∷ t) a.conn.0 a.channel id ≡ Some n) (sym link)
        (shown (Some id) gives c own ∙ all (option_and_then (number_tagged (number_named t)) (tag_in x)) (named t c own id) (c == c) (own == own) (id == id) (eq-eqb c c refl) (eq-eqb own own refl) (eq-eqb id id refl) ∙ is.tells id gives ∙ ap (λ (k : ℕ). Some k) number))
      where
        all : (v w : Option ℕ) (a b q : Bool) → a ≡ true → b ≡ true → q ≡ true → (if a then (if b then (if q then v else w) else w) else w) ≡ v
        all v w true true true e f g = refl
        all v w true true false e f g = absurd (clash (sym g))
        all v w true false q e f g = absurd (clash (sym f))
        all v w false b q e f g = absurd (clash (sym e))

    by : (v : Option ℕ) → x.delivery_id ≡ v → Goal
    by v given = by_number (m == n) refl (sym id_of ∙ has)
      where
        by_id : (o : Option ℕ) → w.before.id ≡ o → (m == n) ≡ true → (if is_none o then x.delivery_id else o) ≡ Some id → Goal
        by_id None none f gives = now_named f gives
        by_id (Some k) had_it f gives = had (had_it ∙ gives) v given

        by_number : (q : Bool) → (m == n) ≡ q → (if q then (if is_none w.before.id then x.delivery_id else w.before.id) else w.before.id) ≡ Some id → Goal
        by_number true f gives = by_id w.before.id refl f gives
        by_number false f gives = had gives v given

-- all that is due: at most one frame

transfer_names : (t : List Entry) (n : ℕ) (d : Delivery) → NamesTold t → HasSmallNumbers t → delivery t n ≡ Some d → (is_going t n d || can_start t d) ≡ true → IsNaming t n d (transfer_of t d)
transfer_names t n d told_names small there goes = by d.id refl
  where
    tagged_is : tagged (tag_of d.name) ≡ Some d.name
    tagged_is = told_names n d there small

    numbered_is : number_tagged (number_named t) (tag_of d.name) ≡ Some n
    numbered_is = ap (λ (v : Option DeliveryName). option_and_then (number_named t) v) tagged_is ∙ there_named t n d there

    no_id : (id : ℕ) → None ≡ Some id → ⊥
    no_id id e = cc

    starts : d.id ≡ None → can_start t d ≡ true
    starts none = only (is_going t n d) goes (ap (λ (v : Option ℕ). (is_some v && d.going_on) && goes_on_at (link_of t d.link) d.link.number (sending t d.link.conn.0 d.link.channel d.link.handle) n) none)
      where
        only : (g : Bool) → (g || can_start t d) ≡ true → g ≡ false → can_start t d ≡ true
        only true h e = absurd (clash e)
        only false h e = h

    unused_next : d.id ≡ None → is_used t (named t d.link.conn.0 d.link.channel (next_id t d.link.conn.0 d.link.channel)) ≡ false
    unused_next none =
        let rest = both_true (takes_more (link_of t d.link) d.link.number) _ (both_true (is_none d.id && d.going_on) _ (starts none)).1 in
        negated (is_used t (named t d.link.conn.0 d.link.channel (next_id t d.link.conn.0 d.link.channel))) (both_true (not (is_busy t d.link.conn.0 d.link.channel)) _ rest.1).1
      where
        negated : (b : Bool) → not b ≡ true → b ≡ false
        negated true e = absurd (clash (sym e))
        negated false e = refl

    goes_on : (k : ℕ) → d.id ≡ Some k → sending t d.link.conn.0 d.link.channel d.link.handle ≡ Some n
    goes_on k has =
        going (is_going t n d) refl goes (ap (λ (v : Option ℕ). (is_none v && d.going_on) && (takes_more (link_of t d.link) d.link.number
        && (not (is_busy t d.link.conn.0 d.link.channel) && not (is_used t (named t d.link.conn.0 d.link.channel (next_id t d.link.conn.0 d.link.channel)))))) has)
      where
        on_link : (v : Option Link) (number : ℕ) (sent : Option ℕ) → goes_on_at v number sent n ≡ true → sent ≡ Some n
        on_link None number sent h = absurd (clash (sym h))
        on_link (Some l) number sent h =
            number_is sent n (both_true l.going_on (is_number sent n) (both_true (l.number == number) (l.going_on && is_number sent n) h).1).1

        going : (g : Bool) → is_going t n d ≡ g → (g || can_start t d) ≡ true → can_start t d ≡ false → sending t d.link.conn.0 d.link.channel d.link.handle ≡ Some n
        going true is h e = on_link (link_of t d.link) d.link.number (sending t d.link.conn.0 d.link.channel d.link.handle) (both_true (is_some d.id && d.going_on) _ is).1
        going false is h e = absurd (clash (sym h ∙ e))

    by : (v : Option ℕ) → d.id ≡ v → IsNaming t n d (transfer_of t d)
    by None none =
        subst (λ (x : Transfer). IsNaming t n d x)
        (ap (λ (v : Option ℕ). if is_none v then first_transfer d.link.handle (next_id t d.link.conn.0 d.link.channel) d else later_transfer d.link.handle d) (sym none))
        (record {
          carries = numbered_is;
          fresh = λ id given. none;
          tells = λ id given. numbered_is;
          unused = λ id given. subst (λ (k : ℕ). is_used t (named t d.link.conn.0 d.link.channel k) ≡ false) (some_same given) (unused_next none);
        })
    by (Some k) has =
        subst (λ (x : Transfer). IsNaming t n d x)
        (ap (λ (v : Option ℕ). if is_none v then first_transfer d.link.handle (next_id t d.link.conn.0 d.link.channel) d else later_transfer d.link.handle d) (sym has))
        (record {
          carries = goes_on k has;
          fresh = λ id given. absurd (no_id id given);
          tells = λ id given. absurd (no_id id given);
          unused = λ id given. absurd (no_id id given);
        })

-- what holds of each such frame holds of what is due
pub sends_elim : (t : List Entry) (P : List Put → Type 0) → HasSmallNumbers t → P []
    → ((n : ℕ) (d : Delivery) (x : Transfer) (payload : List ℕ) → delivery t n ≡ Some d → IsNaming t n d x
    → P (record { conn = d.link.conn.0; item = item.Frame false d.link.channel (perf.Transfer x) payload } ∷ [])) → P (sends_due t)
sends_elim t P small none each =
    placed_elim (rank_at t) (bindings t + 1) (λ n. place_to_go t n (delivery t n)) (λ x. P (send_of t x)) none (λ n a e. by n a (delivery t n) refl e)
  where
    passed : (b : Bool) (x a : Attachment) → (if b then Some x else None) ≡ Some a → b ≡ true
    passed true x a e = refl
    passed false x a e = absurd (none_not_some e)

    framed : (n : ℕ) (d : Delivery) (largest : ℕ) (x : Transfer) → delivery t n ≡ Some d → IsNaming t n d x
        → P (record { conn = d.link.conn.0; item = next_frame largest d.link.channel x (rest_of d) } ∷ [])
    framed n d largest x there is = pick (fits largest (transfer_frame d.link.channel x (rest_of d))) (filled largest d.link.channel x (rest_of d))
      where
        pick : (b : Bool) (k : ℕ) → P (record { conn = d.link.conn.0; item = (if b then transfer_frame d.link.channel x (rest_of d) else part_frame d.link.channel x (rest_of d) k) } ∷ [])
        pick true k = each n d x (rest_of d) there is
        pick false k = each n d (with_more x) _ there (with_more_too t n d x is)

    by : (n : ℕ) (a : Attachment) (v : Option Delivery) → delivery t n ≡ v → place_to_go t n v ≡ Some a → P (send t v)
    by n a None there e = none
    by n a (Some d) there e =
        let can = passed (can_go t n d) d.link a e in
        let goes = (both_true (is_wide (session t d.link.conn.0 d.link.channel)) (is_going t n d || can_start t d) (both_true (is_there (numbered t d.link.number) d.link) _ can).1).1 in
        framed n d (largest_out (largest_frame t d.link.conn.0)) (transfer_of t d) there (transfer_names t n d (names_told t) small there goes)
