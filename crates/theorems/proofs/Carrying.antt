-- The payloads of a delivery's frames, in order, if each carries the next bytes: a beginning of the message, and in the end all of it.
use Rattle.std.proofs.Common.{◌≡◌, ◌∙◌, sym, ap, refl, subst, ℕ, ◌+◌, ◌≤◌, ◌<◌, ◌^◌, Bool, true, false, List, [], ◌∷◌, ◌++◌, length, take, drop, arith}
use Rattle.std.specs.Prelude.{◌==◌, Option, Some, None, is_none, is_some, option_and_then, if◌then◌else◌}
use Rattle.std.proofs.lemmas.Bool.{eqb-true, eq-eqb}
use Rattle.std.proofs.lemmas.List.{take-append-drop}
use Rattle.std.proofs.Math.Seq.{take-add}
use Rattle.amqp_model.specs.declared.perf.Perf.{Perf}
use Rattle.amqp_model.specs.declared.perf.Perf.TheVariants as perf
use Rattle.amqp_model.specs.declared.perf.Transfer.{Transfer}
use Rattle.amqp_model.specs.declared.item.Item.{Item}
use Rattle.amqp_model.specs.declared.item.Item.TheVariants as item
use Rattle.router_trace.specs.declared.binding.Binding.{Binding}
use Rattle.router_trace.specs.declared.binding.DeliveryName.{DeliveryName}
use Rattle.router_trace.specs.Trace.{Entry, Did, Out, Took, Bound, Booked, Routed, Began, IsOneRun}
use Rattle.router_trace.specs.Deliveries.{Delivery, bindings, counters, holds_standing, number_named, delivery, sending, named, unless_over, after_frame, closes, ended_by, put_in, after_put, after_event, carried, tag_in, is_number, channels_found, acts_found, held_by}
use Rattle.theorems.specs.OneConsumer.{IsOf, WhileThere}
use Rattle.theorems.specs.Each.{EachOut}
use Rattle.theorems.specs.Carried.{HasSmallNumbers, BeginsOrGoesOn, CarriesMessage, CarriesWhatWasBound, bytes_by, bytes_out, IsBeginning, GoesInOrder, CompletesMessage}
use Rattle.state_connections.proofs.Lists.{by_test}
use Rattle.theorems.proofs.Tests.{some_same}
use Rattle.theorems.proofs.Followed.{Left, ends_left, told_left, event_left}
use Rattle.state_deliveries.proofs.Called.{there_named}
use Rattle.theorems.proofs.Outcomes.{number_is}
use Rattle.theorems.proofs.Rebound.{AfterBound, after_bound, held_id, held_payload, held_sent}
use Rattle.theorems.proofs.Rebound.AfterBound.{is_new, is_joined, is_old}
use Rattle.theorems.proofs.Bindings.{of_what, there_bound, stays_with_consumer}

-- the id, and how many bytes were sent

pub record Unmoved (d e : Delivery) : Type 0 where
  pub id : e.id ≡ d.id
  pub sent : e.sent ≡ d.sent
  pub payload : e.payload ≡ d.payload

unmoved : (d : Delivery) → Unmoved d d
unmoved d = record { id = refl; sent = refl; payload = refl }

unmoved_left : Left Unmoved
unmoved_left = record {
  same = unmoved;
  next = λ d e f first rest. record { id = rest.id ∙ first.id; sent = rest.sent ∙ first.sent; payload = rest.payload ∙ first.payload };
  untold = λ d. record { id = refl; sent = refl; payload = refl };
  forsaken = λ d. record { id = refl; sent = refl; payload = refl };
  unsettled = λ d. record { id = refl; sent = refl; payload = refl };
  ended = λ d. record { id = refl; sent = refl; payload = refl };
  suspended = λ d. record { id = refl; sent = refl; payload = refl };
  decided = λ d s. record { id = refl; sent = refl; payload = refl };
}

-- a frame advances its own delivery, and nothing else advances one

frame_moves : (c : ℕ) (sasl : Bool) (own : ℕ) (x : Transfer) (payload : List ℕ) (t : List Entry) (n : ℕ) (d : Delivery)
    → is_number (carried (number_named t) (tag_in x) (sending t c own x.handle)) n ≡ true
    → Unmoved (after_frame x (length payload) d) (after_put (number_named t) (item.Frame sasl own (perf.Transfer x) payload) c n (sending t c) d)
frame_moves c sasl own x payload t n d e =
    subst (λ (f : Delivery). Unmoved f (after_put (number_named t) (item.Frame sasl own (perf.Transfer x) payload) c n (sending t c) d)) (here (is_number (carried (number_named t) (tag_in x) (sending t c own x.handle)) n) e)
    (ends_left Unmoved unmoved_left false (ended_by (item.Frame sasl own (perf.Transfer x) payload) c) (put_in (number_named t) (perf.Transfer x) c own n (sending t c) (length payload) d))
  where
    here : (b : Bool) → b ≡ true → (if b then after_frame x (length payload) d else d) ≡ after_frame x (length payload) d
    here true e = refl
    here false e = absurd cc

other_frame : (c : ℕ) (sasl : Bool) (own : ℕ) (x : Transfer) (payload : List ℕ) (t : List Entry) (n : ℕ) (d : Delivery)
    → is_number (carried (number_named t) (tag_in x) (sending t c own x.handle)) n ≡ false
    → Unmoved d (after_put (number_named t) (item.Frame sasl own (perf.Transfer x) payload) c n (sending t c) d)
other_frame c sasl own x payload t n d e =
    subst (λ (f : Delivery). Unmoved f (after_put (number_named t) (item.Frame sasl own (perf.Transfer x) payload) c n (sending t c) d)) (here (is_number (carried (number_named t) (tag_in x) (sending t c own x.handle)) n) e)
    (ends_left Unmoved unmoved_left false (ended_by (item.Frame sasl own (perf.Transfer x) payload) c) (put_in (number_named t) (perf.Transfer x) c own n (sending t c) (length payload) d))
  where
    here : (b : Bool) → b ≡ false → (if b then after_frame x (length payload) d else d) ≡ d
    here true e = absurd cc
    here false e = refl

-- an item is a transfer, or advances no delivery and carries nothing
pub item_elim : (i : Item) (P : Item → Type 0)
    → ((sasl : Bool) (own : ℕ) (x : Transfer) (payload : List ℕ) → P (item.Frame sasl own (perf.Transfer x) payload))
    → (((numbers : DeliveryName → Option ℕ) (c n : ℕ) (sent : ℕ → ℕ → Option ℕ) (d : Delivery) → Unmoved d (after_put numbers i c n sent d))
    → ((numbers : DeliveryName → Option ℕ) (n : ℕ) (sent : ℕ → ℕ → Option ℕ) (bytes : List ℕ) → bytes_by numbers i n sent bytes ≡ bytes) → P i) → P i
item_elim (item.Frame sasl own body payload) P transfer other = by body other
  where
    by : (body : Perf)
        → (((numbers : DeliveryName → Option ℕ) (c n : ℕ) (sent : ℕ → ℕ → Option ℕ) (d : Delivery) → Unmoved d (after_put numbers (item.Frame sasl own body payload) c n sent d))
        → ((numbers : DeliveryName → Option ℕ) (n : ℕ) (sent : ℕ → ℕ → Option ℕ) (bytes : List ℕ) → bytes_by numbers (item.Frame sasl own body payload) n sent bytes ≡ bytes) → P (item.Frame sasl own body payload))
        → P (item.Frame sasl own body payload)
    by (perf.Transfer x) other = transfer sasl own x payload
    by (perf.Disposition x) other =
        other (λ numbers c n sent d. unmoved_left.next d (put_in numbers (perf.Disposition x) c own n sent (length payload) d) (after_put numbers (item.Frame sasl own (perf.Disposition x) payload) c n sent d)
        (told_left Unmoved unmoved_left x.role x c own d)
        (ends_left Unmoved unmoved_left false (ended_by (item.Frame sasl own (perf.Disposition x) payload) c) (put_in numbers (perf.Disposition x) c own n sent (length payload) d)))
        (λ numbers n sent bytes. refl)
    by body other = other (λ numbers c n sent d. ends_left Unmoved unmoved_left (closes body) (ended_by (item.Frame sasl own body payload) c) d) (λ numbers n sent bytes. refl)
item_elim _ P transfer other = other (λ numbers c n sent d. unmoved d) (λ numbers n sent bytes. refl)

-- nothing was sent of a delivery without an id

abbrev pub Unstarted : List Entry → Type 0
Unstarted t = (n : ℕ) (d : Delivery) → delivery t n ≡ Some d → d.id ≡ None → d.sent ≡ 0

moves_unstarted : (f : Delivery → Delivery) (v : Option Delivery) → ((d : Delivery) → Unmoved d (f d)) → ((d : Delivery) → v ≡ Some d → d.id ≡ None → d.sent ≡ 0)
    → (e : Delivery) → option_and_then (λ d. unless_over (f d)) v ≡ Some e → e.id ≡ None → e.sent ≡ 0
moves_unstarted f v unmoved was e there none =
    let d = of_what f v e there
    in let same : Unmoved d.0 e = subst (λ (g : Delivery). Unmoved d.0 g) (sym d.2) (unmoved d.0)
    in same.sent ∙ was d.0 d.1 (sym same.id ∙ none)

pub did_unstarted : (t : List Entry) (s : _) → Unstarted t → Unstarted (Did s ∷ t)
did_unstarted t s was n =
    moves_unstarted (after_event s.event (channels_found t) (named t) (acts_found t) n) (delivery t n) (λ d. event_left Unmoved unmoved_left s.event (channels_found t) (named t) (acts_found t) n d) (was n)

pub bound_unstarted : (t : List Entry) (b : Binding) → Unstarted t → Unstarted (Bound b ∷ t)
bound_unstarted t b was n d there none = by (after_bound b t n d there)
  where
    by : AfterBound b t n d → d.sent ≡ 0
    by (is_new new) = sym (ap (λ (f : Delivery). f.sent) new.is)
    by (is_joined joins) = sym (ap (λ (f : Delivery). f.sent) joins.is) ∙ held_sent joins.holding joins.before
        ∙ was n joins.before joins.there (sym (held_id joins.holding joins.before) ∙ ap (λ (f : Delivery). f.id) joins.is ∙ none)
    by (is_old there) = was n d there none

-- the number that a frame of the router carries
pub carries_number : (t : List Entry) (c own : ℕ) (x : Transfer) (payload : List ℕ) (is : CarriesMessage t c own x payload) → HasSmallNumbers t
    → carried (number_named t) (tag_in x) (sending t c own x.handle) ≡ Some is.number
carries_number t c own x payload is small = by is.of.id is.begins_or_goes_on
  where
    by : (id : Option ℕ) → BeginsOrGoesOn id t c own is.number is.of x → carried (number_named t) (tag_in x) (sending t c own x.handle) ≡ Some is.number
    by None first = ap (λ (v : Option (List ℕ)). carried (number_named t) v (sending t c own x.handle)) first.tag ∙ ap (option_and_then (number_named t)) (first.tells_name small) ∙ there_named t is.number is.of is.there
    by (Some id) later = ap (λ (v : Option (List ℕ)). carried (number_named t) v (sending t c own x.handle)) later.tag ∙ later.same_delivery

-- after a frame of the router its delivery has an id
has_id : (t : List Entry) (c own : ℕ) (x : Transfer) (payload : List ℕ) (n : ℕ) (d : Delivery) → CarriesMessage t c own x payload
    → carried (number_named t) (tag_in x) (sending t c own x.handle) ≡ Some n → delivery t n ≡ Some d → (if is_none d.id then x.delivery_id else d.id) ≡ None → ⊥
has_id t c own x payload n d is number there none = by is.of.id refl is.begins_or_goes_on
  where
    some_none : (v : Option ℕ) → is_some v ≡ true → v ≡ None → ⊥
    some_none None some e = cc
    some_none (Some k) some e = cc

    either : (v w : Option ℕ) → is_some w ≡ true → (if is_none v then w else v) ≡ None → ⊥
    either None w some e = some_none w some e
    either (Some k) w some e = some_none (Some k) refl e

    begun : (v w : Option ℕ) (id : ℕ) → v ≡ Some id → (if is_none v then w else v) ≡ None → ⊥
    begun None w id e f = cc
    begun (Some k) w id e f = some_none (Some k) refl f

    by : (id : Option ℕ) → is.of.id ≡ id → BeginsOrGoesOn id t c own is.number is.of x → ⊥
    by None e first = either d.id x.delivery_id first.id none
    by (Some id) e later =
        let same : Some n ≡ Some is.number = sym number ∙ ap (λ (v : Option (List ℕ)). carried (number_named t) v (sending t c own x.handle)) later.tag ∙ later.same_delivery
        in let of : d ≡ is.of = some_same (sym there ∙ ap (λ (k : ℕ). delivery t k) (some_same same) ∙ is.there)
        in begun d.id x.delivery_id id (ap (λ (f : Delivery). f.id) of ∙ e) none

pub out_unstarted : (t : List Entry) (c : ℕ) (i : Item) → CarriesWhatWasBound t c i → Unstarted t → Unstarted (Out c i ∷ t)
out_unstarted t c i =
    item_elim i (λ i. CarriesWhatWasBound t c i → Unstarted t → Unstarted (Out c i ∷ t)) by_transfer
    (λ moves bytes is was n. moves_unstarted (after_put (number_named t) i c n (sending t c)) (delivery t n) (moves (number_named t) c n (sending t c)) (was n))
  where
    by_transfer : (sasl : Bool) (own : ℕ) (x : Transfer) (payload : List ℕ) → CarriesMessage t c own x payload → Unstarted t
        → Unstarted (Out c (item.Frame sasl own (perf.Transfer x) payload) ∷ t)
    by_transfer sasl own x payload is was n e there none =
        let d = of_what (after_put (number_named t) (item.Frame sasl own (perf.Transfer x) payload) c n (sending t c)) (delivery t n) e there
        in by_test (is_number (carried (number_named t) (tag_in x) (sending t c own x.handle)) n)
        (λ test. let moved = frame_moves c sasl own x payload t n d.0 test
        in absurd (has_id t c own x payload n d.0 is (number_is (carried (number_named t) (tag_in x) (sending t c own x.handle)) n test) d.1
        (sym moved.id ∙ sym (ap (λ (f : Delivery). f.id) d.2) ∙ none)))
        (λ test. let same = other_frame c sasl own x payload t n d.0 test
        in ap (λ (f : Delivery). f.sent) d.2 ∙ same.sent ∙ was n d.0 d.1 (sym same.id ∙ sym (ap (λ (f : Delivery). f.id) d.2) ∙ none))

-- the bytes sent

abbrev AllCarried : List Entry → Type 0
AllCarried u = EachOut CarriesWhatWasBound u

-- a frame belongs only to the delivery of its entry
same_number : (t : List Entry) (c own : ℕ) (x : Transfer) (payload : List ℕ) (n : ℕ) (is : CarriesMessage t c own x payload) → HasSmallNumbers t
    → carried (number_named t) (tag_in x) (sending t c own x.handle) ≡ Some n → is.number ≡ n
same_number t c own x payload n is small number =
    some_same (sym (carries_number t c own x payload is small) ∙ number)

-- small numbers were small before
lower : (t : List Entry) (b : Binding) → HasSmallNumbers (Bound b ∷ t) → HasSmallNumbers t
lower t b small = (fewer (is_none b.row) small.0, small.1.1)
  where
    fewer : (q : Bool) → (if q then counters t + 1 else counters t) < 2 ^ 64 → counters t < 2 ^ 64
    fewer true h = omega (arith, h)
    fewer false h = h

-- nothing is sent before it is bound
none_early : (u : List Entry) (n : ℕ) → AllCarried u → HasSmallNumbers u → bindings u < n → bytes_out u n ≡ []
none_early [] n all small early = refl
none_early (Did s ∷ t) n all small early = none_early t n all small early
none_early (Out c i ∷ t) n all small early =
    item_elim i (λ i. CarriesWhatWasBound t c i → bytes_by (number_named t) i n (sending t c) (bytes_out t n) ≡ []) (by_transfer (none_early t n all.1 small early))
    (λ moves bytes is. bytes (number_named t) n (sending t c) (bytes_out t n) ∙ none_early t n all.1 small early) all.0
  where
    above : (n k : ℕ) → n ≤ k → k < n → ⊥
    above n k h early = omega (arith, h, early)

    by_transfer : bytes_out t n ≡ [] → (sasl : Bool) (own : ℕ) (x : Transfer) (payload : List ℕ) → CarriesMessage t c own x payload
        → (if is_number (carried (number_named t) (tag_in x) (sending t c own x.handle)) n then bytes_out t n ++ payload else bytes_out t n) ≡ []
    by_transfer before sasl own x payload is =
        by_test (is_number (carried (number_named t) (tag_in x) (sending t c own x.handle)) n)
        (λ test. let same = same_number t c own x payload n is small (number_is (carried (number_named t) (tag_in x) (sending t c own x.handle)) n test)
        in absurd (above n (bindings t) (subst (λ (k : ℕ). k ≤ bindings t) same (there_bound t is.number is.of is.there)) early))
        (λ test. rw test before)
none_early (Began g ∷ t) n all small early = refl
none_early (Took c k ∷ t) n all small early = none_early t n all small early
none_early (Booked acts full ∷ t) n all small early = none_early t n all small early
none_early (Routed passage ∷ t) n all small early = none_early t n all small early
none_early (Bound b ∷ t) n all small early = none_early t n all (lower t b small) (lower_still (is_none (holds_standing b.kind)) early)
  where
    lower_still : (new : Bool) → (if new then bindings t + 1 else bindings t) < n → bindings t < n
    lower_still true h = omega (arith, h)
    lower_still false h = h

-- The next bytes of a message join those before them.
joined : (d : Delivery) (before payload : List ℕ) → before ≡ take d.sent d.payload → payload ≡ take (length payload) (drop d.sent d.payload)
    → before ++ payload ≡ take (d.sent + length payload) d.payload
joined d before payload was next =
    ap (λ (bytes : List ℕ). bytes ++ payload) was ∙ ap (λ (bytes : List ℕ). take d.sent d.payload ++ bytes) next
    ∙ sym (take-add d.sent (length payload) d.payload)

-- the frame of a delivery is the one of its entry
of_entry : (t : List Entry) (c own : ℕ) (x : Transfer) (payload : List ℕ) (n : ℕ) (d : Delivery) (is : CarriesMessage t c own x payload) → HasSmallNumbers t
    → carried (number_named t) (tag_in x) (sending t c own x.handle) ≡ Some n → delivery t n ≡ Some d → is.of ≡ d
of_entry t c own x payload n d is small number there =
    some_same (sym is.there ∙ ap (λ (k : ℕ). delivery t k) (same_number t c own x payload n is small number) ∙ there)

next_bytes : (t : List Entry) (c own : ℕ) (x : Transfer) (payload : List ℕ) (n : ℕ) (d : Delivery) → CarriesMessage t c own x payload → HasSmallNumbers t
    → carried (number_named t) (tag_in x) (sending t c own x.handle) ≡ Some n → delivery t n ≡ Some d → payload ≡ take (length payload) (drop d.sent d.payload)
next_bytes t c own x payload n d is small number there =
    subst (λ (e : Delivery). payload ≡ take (length payload) (drop e.sent e.payload)) (of_entry t c own x payload n d is small number there) is.bytes

-- the bytes sent of an existing delivery

abbrev Went : List Entry → ℕ → Delivery → Type 0
Went u n d = bytes_out u n ≡ take d.sent d.payload

abbrev AllWent : List Entry → ℕ → Type 0
AllWent u n = (d : Delivery) → delivery u n ≡ Some d → Went u n d

unmoved_went : (bytes : List ℕ) (d e : Delivery) → bytes ≡ take d.sent d.payload → Unmoved d e → bytes ≡ take e.sent e.payload
unmoved_went bytes d e was same = was ∙ ap (λ (k : ℕ). take k d.payload) (sym same.sent) ∙ ap (λ (whole : List ℕ). take e.sent whole) (sym same.payload)

out_went : (t : List Entry) (c n : ℕ) (i : Item) → HasSmallNumbers t → AllWent t n → CarriesWhatWasBound t c i → AllWent (Out c i ∷ t) n
out_went t c n i small was =
    item_elim i (λ i. CarriesWhatWasBound t c i → AllWent (Out c i ∷ t) n) by_transfer
    (λ moves bytes is e there. by_other (after_put (number_named t) i c n (sending t c)) (bytes_by (number_named t) i n (sending t c) (bytes_out t n)) (moves (number_named t) c n (sending t c)) (bytes (number_named t) n (sending t c) (bytes_out t n)) e there)
  where
    by_other : (f : Delivery → Delivery) (bytes : List ℕ) → ((d : Delivery) → Unmoved d (f d)) → bytes ≡ bytes_out t n
        → (e : Delivery) → option_and_then (λ d. unless_over (f d)) (delivery t n) ≡ Some e → bytes ≡ take e.sent e.payload
    by_other f bytes moves same e there =
        let d = of_what f (delivery t n) e there
        in unmoved_went bytes d.0 e (same ∙ was d.0 d.1) (subst (λ (g : Delivery). Unmoved d.0 g) (sym d.2) (moves d.0))

    by_transfer : (sasl : Bool) (own : ℕ) (x : Transfer) (payload : List ℕ) → CarriesMessage t c own x payload
        → AllWent (Out c (item.Frame sasl own (perf.Transfer x) payload) ∷ t) n
    by_transfer sasl own x payload is e there =
        let d = of_what (after_put (number_named t) (item.Frame sasl own (perf.Transfer x) payload) c n (sending t c)) (delivery t n) e there
        in by_test (is_number (carried (number_named t) (tag_in x) (sending t c own x.handle)) n)
        (λ test. let moved : Unmoved (after_frame x (length payload) d.0) e
        = subst (λ (g : Delivery). Unmoved (after_frame x (length payload) d.0) g) (sym d.2) (frame_moves c sasl own x payload t n d.0 test)
        in let number = number_is (carried (number_named t) (tag_in x) (sending t c own x.handle)) n test
        in let all : bytes_out t n ++ payload ≡ take e.sent e.payload
        = unmoved_went (bytes_out t n ++ payload) (after_frame x (length payload) d.0) e
        (joined d.0 (bytes_out t n) payload (was d.0 d.1) (next_bytes t c own x payload n d.0 is small number d.1)) moved
        in rw test all)
        (λ test. let same : Unmoved d.0 e = subst (λ (g : Delivery). Unmoved d.0 g) (sym d.2) (other_frame c sasl own x payload t n d.0 test)
        in rw test (unmoved_went (bytes_out t n) d.0 e (was d.0 d.1) same))

bound_went : (b : Binding) (t : List Entry) (n : ℕ) → AllCarried t → HasSmallNumbers t → AllWent t n → AllWent (Bound b ∷ t) n
bound_went b t n all small was d there = by (after_bound b t n d there)
  where
    just_below : (k n : ℕ) → k + 1 ≡ n → k < n
    just_below k n h = omega (arith, h)

    by : AfterBound b t n d → Went t n d
    by (is_new new) = none_early t n all small (just_below (bindings t) n new.number) ∙ ap (λ (f : Delivery). take f.sent f.payload) new.is
    by (is_joined joins) = was joins.before joins.there ∙ sym (ap (λ (k : ℕ). take k (held_by joins.holding joins.before).payload) (held_sent joins.holding joins.before)
        ∙ ap (take joins.before.sent) (held_payload joins.holding joins.before)) ∙ ap (λ (f : Delivery). take f.sent f.payload) joins.is
    by (is_old there) = was d there

pub went : (u : List Entry) (n : ℕ) → AllCarried u → HasSmallNumbers u → AllWent u n
went [] n all small d there = absurd cc
went (Did s ∷ t) n all small d there =
    let was = of_what (after_event s.event (channels_found t) (named t) (acts_found t) n) (delivery t n) d there
    in unmoved_went (bytes_out t n) was.0 d (went t n all small was.0 was.1)
    (subst (λ (g : Delivery). Unmoved was.0 g) (sym was.2) (event_left Unmoved unmoved_left s.event (channels_found t) (named t) (acts_found t) n was.0))
went (Out c i ∷ t) n all small d there = out_went t c n i small (went t n all.1 small) all.0 d there
went (Began g ∷ t) n all small d there = absurd cc
went (Took c k ∷ t) n all small d there = went t n all small d there
went (Booked acts full ∷ t) n all small d there = went t n all small d there
went (Routed passage ∷ t) n all small d there = went t n all small d there
went (Bound b ∷ t) n all small d there = bound_went b t n all (lower t b small) (went t n all (lower t b small)) d there

-- after the last frame of a message, all of it was sent
completes : (t : List Entry) (c : ℕ) (i : Item) → AllCarried t → CarriesWhatWasBound t c i → CompletesMessage t c i
completes t c (item.Frame sasl own body payload) all is = by body is
  where
    by : (body : Perf) → CarriesWhatWasBound t c (item.Frame sasl own body payload) → CompletesMessage t c (item.Frame sasl own body payload)
    by (perf.Transfer x) is = λ small last n d there number.
        let of = of_entry t c own x payload n d is small number there
        in let rest : payload ≡ drop d.sent d.payload = subst (λ (e : Delivery). payload ≡ drop e.sent e.payload) of (is.last last)
        in let test : is_number (carried (number_named t) (tag_in x) (sending t c own x.handle)) n ≡ true = ap (λ (v : Option ℕ). is_number v n) number ∙ eq-eqb n n refl
        in let joined : bytes_out t n ++ payload ≡ d.payload
        = ap (λ (bytes : List ℕ). bytes ++ payload) (went t n all small d there) ∙ ap (λ (bytes : List ℕ). take d.sent d.payload ++ bytes) rest ∙ take-append-drop d.sent d.payload
        in rw test joined
    by _ is = tt
completes t c _ all is = tt

pub all_complete : (u : List Entry) → AllCarried u → EachOut CompletesMessage u
all_complete [] all = tt
all_complete (Did s ∷ t) all = all_complete t all
all_complete (Out c i ∷ t) all = (completes t c i all.1 all.0, all_complete t all.1)
all_complete (Took c k ∷ t) all = all_complete t all
all_complete (Bound b ∷ t) all = all_complete t all
all_complete (Booked acts full ∷ t) all = all_complete t all
all_complete (Routed passage ∷ t) all = all_complete t all
all_complete (Began g ∷ t) all = all_complete t all

-- the bytes sent are always a beginning

begins : (bytes whole : List ℕ) (n : ℕ) → bytes ≡ take n whole → IsBeginning bytes whole
begins bytes whole n is = record { rest = drop n whole; joined = ap (λ (xs : List ℕ). xs ++ drop n whole) is ∙ take-append-drop n whole }

out_begins : (u : List Entry) (c n : ℕ) (i : Item) (whole : List ℕ) → HasSmallNumbers u → AllCarried u → WhileThere (λ d. d.payload ≡ whole) (delivery u n)
    → IsBeginning (bytes_out u n) whole → CarriesWhatWasBound u c i → IsBeginning (bytes_out (Out c i ∷ u) n) whole
out_begins u c n i whole small all same was =
    item_elim i (λ i. CarriesWhatWasBound u c i → IsBeginning (bytes_out (Out c i ∷ u) n) whole) by_transfer
    (λ moves bytes is. subst (λ (xs : List ℕ). IsBeginning xs whole) (sym (bytes (number_named u) n (sending u c) (bytes_out u n))) was)
  where
    by_transfer : (sasl : Bool) (own : ℕ) (x : Transfer) (payload : List ℕ) → CarriesMessage u c own x payload
        → IsBeginning (bytes_out (Out c (item.Frame sasl own (perf.Transfer x) payload) ∷ u) n) whole
    by_transfer sasl own x payload is =
        by_test (is_number (carried (number_named u) (tag_in x) (sending u c own x.handle)) n)
        (λ test. let number = number_is (carried (number_named u) (tag_in x) (sending u c own x.handle)) n test
        in let there : delivery u n ≡ Some is.of = sym (ap (λ (k : ℕ). delivery u k) (same_number u c own x payload n is small number)) ∙ is.there
        in let of_whole : is.of.payload ≡ whole = subst (λ (v : Option Delivery). WhileThere (λ d. d.payload ≡ whole) v) there same
        in let all_gone : IsBeginning (bytes_out u n ++ payload) whole
        = subst (λ (xs : List ℕ). IsBeginning (bytes_out u n ++ payload) xs) of_whole
        (begins (bytes_out u n ++ payload) is.of.payload (is.of.sent + length payload) (joined is.of (bytes_out u n) payload (went u n all small is.of there) is.bytes))
        in rw test all_gone)
        (λ test. rw test was)

payload_of : (later : List Entry) (b : Binding) (v : Option Delivery) → WhileThere (IsOf later b) v → WhileThere (λ d. d.payload ≡ b.payload) v
payload_of later b None is = tt
payload_of later b (Some d) is = is.payload

begins_later : (later t : List Entry) (b : Binding) → IsOneRun later → holds_standing b.kind ≡ None → AllCarried (later ++ Bound b ∷ t) → HasSmallNumbers (later ++ Bound b ∷ t)
    → IsBeginning (bytes_out (later ++ Bound b ∷ t) (bindings t + 1)) b.payload
begins_later [] t b one numbered all small =
    record { rest = b.payload; joined = ap (λ (xs : List ℕ). xs ++ b.payload) (none_early t (bindings t + 1) all (lower t b small) (above (bindings t))) }
  where
    above : (k : ℕ) → k < k + 1
    above k = omega arith
begins_later (Did s ∷ later) t b one numbered all small = begins_later later t b one.1 numbered all small
begins_later (Out c i ∷ later) t b one numbered all small =
    out_begins (later ++ Bound b ∷ t) c (bindings t + 1) i b.payload small all.1
    (payload_of later b (delivery (later ++ Bound b ∷ t) (bindings t + 1)) (stays_with_consumer b t later one.1 numbered))
    (begins_later later t b one.1 numbered all.1 small) all.0
begins_later (Took c k ∷ later) t b one numbered all small = begins_later later t b one.1 numbered all small
begins_later (Bound a ∷ later) t b one numbered all small = begins_later later t b one.1 numbered all (lower (later ++ Bound b ∷ t) a small)
begins_later (Booked acts full ∷ later) t b one numbered all small = begins_later later t b one.1 numbered all small
begins_later (Routed passage ∷ later) t b one numbered all small = begins_later later t b one.1 numbered all small
begins_later (Began g ∷ later) t b one numbered all small = absurd (let wrong : true ≡ false = one.0 in cc)

pub goes_in_order : (u : List Entry) → AllCarried u → GoesInOrder u
goes_in_order u all small b t later one numbered is =
    subst (λ (v : List Entry). IsBeginning (bytes_out v (bindings t + 1)) b.payload) (sym is)
    (begins_later later t b one numbered (subst (λ (v : List Entry). AllCarried v) is all) (subst (λ (v : List Entry). HasSmallNumbers v) is small))
