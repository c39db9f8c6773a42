-- How an entry changes a delivery, from how each change does; its name, link, payload and format stay, and its origin stays, or becomes none, or that of a
-- delivery which is joined to it.
use Rattle.std.proofs.Common.{◌≡◌, ◌∙◌, sym, ap, subst, refl, inl, inr, ℕ, ◌+◌, ◌≤◌, Bool, true, false, not, ◌&&◌, List, [], ◌∷◌, ◌++◌, arith}
use Rattle.std.specs.Prelude.{◌==◌, Option, Some, None, is_none, option_and_then, if◌then◌else◌, length}
use Rattle.std.proofs.lemmas.Bool.{eqb-true}
use Rattle.std.proofs.lemmas.Bool.Decides.{nat_tests}
use Rattle.amqp_model.specs.declared.perf.Disposition.{Disposition}
use Rattle.amqp_model.specs.declared.perf.Perf.{Perf}
use Rattle.amqp_model.specs.declared.perf.Perf.TheVariants as perf
use Rattle.amqp_model.specs.declared.perf.Role.{Role}
use Rattle.amqp_model.specs.declared.perf.Role.TheVariants.{Sender, Receiver}
use Rattle.amqp_model.specs.declared.perf.Transfer.{Transfer}
use Rattle.amqp_model.specs.declared.state.DeliveryState.{DeliveryState}
use Rattle.amqp_model.specs.declared.item.Item.{Item}
use Rattle.amqp_model.specs.declared.item.Item.TheVariants as item
use Rattle.book_model.specs.declared.act.Act.{Act}
use Rattle.book_model.specs.declared.row.RowNumber.{RowNumber}
use Rattle.router_trace.specs.declared.binding.Binding.{Binding}
use Rattle.router_trace.specs.declared.binding.DeliveryName.{DeliveryName}
use Rattle.router_trace.specs.declared.binding.DeliveryName.TheVariants.{Row, Counter}
use Rattle.router_trace.specs.declared.binding.Holding.{Holding}
use Rattle.router_trace.specs.declared.binding.Holding.TheVariants as holding
use Rattle.router_trace.specs.declared.binding.Origin.{Origin}
use Rattle.router_trace.specs.declared.channel.PeerChannel.{PeerChannel}
use Rattle.router_trace.specs.declared.event.Event.{Event}
use Rattle.router_trace.specs.declared.event.Event.TheVariants as event
use Rattle.router_trace.specs.declared.handle.Attachment.{Attachment}
use Rattle.router_trace.specs.Trace.{Entry, Did, Out, Took, Booked, Routed, Bound, Began, is_opening, IsOneRun}
use Rattle.router_trace.specs.Deliveries.{Delivery, bindings, counters, name_of, name_in, same_name, number_named, unless_called, bound, joined, joins_standing, with_binding, either_origin, delivery, sending, named, is_over, unless_over, after_frame, decided, source, untold, unsettled, told, ended, decided_at_end, suspended_at_end, closes, is_undecided, is_meant, is_named, decision, terminal, is_gone_with, after_origin, after_ends, ended_by, put_in, after_put, carried, tag_in, is_number, is_on, is_settled_at, disposed, outcome_or, outcome_named, given, heard_in, heard, lost_with, after_event, origin_id, channels_found, acts_found, sender, forsaken, rank_in, holds_standing, held_by, resumed_held}
use Rattle.theorems.specs.OneConsumer.{IsOrNone, is_row_of, joined_in, WhileThere}
use Rattle.state_connections.proofs.Lists.{by_test}
use Rattle.state_deliveries.proofs.Called.{there_named}

-- the relation holds across each change, except frames
pub record Left (R : Delivery → Delivery → Type 0) : Type 0 where
  pub same : (d : Delivery) → R d d
  pub next : (d e f : Delivery) → R d e → R e f → R d f
  pub untold : (d : Delivery) → R d (untold d)
  pub forsaken : (d : Delivery) → R d (forsaken d)
  pub unsettled : (d : Delivery) → R d (unsettled d)
  pub ended : (d : Delivery) → R d (decided_at_end d)
  pub suspended : (d : Delivery) → R d (suspended_at_end d)
  pub decided : (d : Delivery) (s : Option DeliveryState) → R d (record d { outcome = s })

-- the choice of two
choice : (R : Delivery → Delivery → Type 0) (b : Bool) (d e f : Delivery) → R d e → R d f → R d (if b then e else f)
choice R true d e f first second = first
choice R false d e f first second = second

origin_left : (R : Delivery → Delivery → Type 0) → Left R → (gone : Attachment → Bool) (d : Delivery) → R d (after_origin gone d)
origin_left R left gone d = choice R (is_gone_with gone (sender d)) d (forsaken d) d (left.forsaken d) (left.same d)

ended_left : (R : Delivery → Delivery → Type 0) → Left R → (closed : Bool) (d : Delivery) → R d (ended closed d)
ended_left R left closed d =
    choice R d.suspended d d (if d.lasting && not closed then suspended_at_end d else decided_at_end d) (left.same d)
    (choice R (d.lasting && not closed) d (suspended_at_end d) (decided_at_end d) (left.suspended d) (left.ended d))

pub ends_left : (R : Delivery → Delivery → Type 0) → Left R → (closed : Bool) (gone : Attachment → Bool) (d : Delivery) → R d (after_ends closed gone d)
ends_left R left closed gone d =
    left.next d (if gone d.link then ended closed d else d) (after_ends closed gone d) (choice R (gone d.link) d (ended closed d) d (ended_left R left closed d) (left.same d))
    (origin_left R left gone (if gone d.link then ended closed d else d))

pub told_left : (R : Delivery → Delivery → Type 0) → Left R → (role : Role) (x : Disposition) (c o : ℕ) (d : Delivery) → R d (told role x c o d)
told_left R left Receiver x c o d =
    choice R (is_meant x (origin_id (source d) c o)) d (if x.settled then untold d else unsettled d) d
    (choice R x.settled d (untold d) (unsettled d) (left.untold d) (left.unsettled d)) (left.same d)
told_left R left Sender x c o d = left.same d

-- and across frames too
abbrev pub Frames : (Delivery → Delivery → Type 0) → Type 0
Frames R = (x : Transfer) (count : ℕ) (d : Delivery) → R d (after_frame x count d)

perf_left : (R : Delivery → Delivery → Type 0) → Left R → Frames R → (numbers : DeliveryName → Option ℕ) (body : Perf) (c own n : ℕ) (sent : ℕ → ℕ → Option ℕ) (count : ℕ) (d : Delivery)
    → R d (put_in numbers body c own n sent count d)
perf_left R left frames numbers (perf.Transfer x) c own n sent count d =
    choice R (is_number (carried numbers (tag_in x) (sent own x.handle)) n) d (after_frame x count d) d (frames x count d) (left.same d)
perf_left R left frames numbers (perf.Disposition x) c own n sent count d = told_left R left x.role x c own d
perf_left R left frames numbers _ c own n sent count d = left.same d

pub item_left : (R : Delivery → Delivery → Type 0) → Left R → Frames R → (numbers : DeliveryName → Option ℕ) (i : Item) (c n : ℕ) (sent : ℕ → ℕ → Option ℕ) (d : Delivery)
    → R d (after_put numbers i c n sent d)
item_left R left frames numbers (item.Frame sasl own body payload) c n sent d =
    left.next d (put_in numbers body c own n sent (length payload) d) (after_put numbers (item.Frame sasl own body payload) c n sent d)
    (perf_left R left frames numbers body c own n sent (length payload) d)
    (ends_left R left (closes body) (ended_by (item.Frame sasl own body payload) c) (put_in numbers body c own n sent (length payload) d))
item_left R left frames numbers _ c n sent d = left.same d

-- it holds across what is received

decided_left : (R : Delivery → Delivery → Type 0) → Left R → (x : Disposition) (names : ℕ → Option ℕ) (n : ℕ) (d : Delivery) → R d (decided x names n d)
decided_left R left x names n d =
    choice R (is_undecided d && is_meant x d.id && is_named d.id names n) d (record d { outcome = decision x.settled (terminal x.state) }) d
    (left.decided d (decision x.settled (terminal x.state))) (left.same d)

disposed_left : (R : Delivery → Delivery → Type 0) → Left R → (role : Role) (x : Disposition) (c : ℕ) (v : Option PeerChannel) (names : ℕ → Option ℕ) (n : ℕ) (d : Delivery)
    → R d (disposed role x c v names n d)
disposed_left R left Receiver x c v names n d = choice R (is_on d.link c v) d (decided x names n d) d (decided_left R left x names n d) (left.same d)
disposed_left R left Sender x c v names n d = choice R (is_settled_at x c v (source d)) d (untold d) d (left.untold d) (left.same d)

heard_perf : (R : Delivery → Delivery → Type 0) → Left R → (body : Perf) (c : ℕ) (v : Option PeerChannel) (names : ℕ → ℕ → Option ℕ) (acts : List Act) (n : ℕ) (d : Delivery)
    → R d (heard_in body c v names acts n d)
heard_perf R left (perf.Disposition x) c v names acts n d = disposed_left R left x.role x c v (names d.link.channel) n d
heard_perf R left (perf.Attach x) c v names acts n d = left.decided d (outcome_or d.outcome (outcome_named acts d.name))
heard_perf R left _ c v names acts n d = left.same d

heard_left : (R : Delivery → Delivery → Type 0) → Left R → (i : Item) (c : ℕ) (known : ℕ → Option PeerChannel) (names : ℕ → ℕ → Option ℕ) (acts : List Act) (n : ℕ) (d : Delivery)
    → R d (heard i c known names acts n d)
heard_left R left (item.Frame sasl channel body payload) c known names acts n d =
    choice R sasl d d (heard_in body c (known channel) names acts n d) (left.same d) (heard_perf R left body c (known channel) names acts n d)
heard_left R left _ c known names acts n d = left.same d

pub event_left : (R : Delivery → Delivery → Type 0) → Left R
    → (e : Event) (known : ℕ → ℕ → Option PeerChannel) (names : ℕ → ℕ → ℕ → Option ℕ) (acts : List Act) (n : ℕ) (d : Delivery) → R d (after_event e known names acts n d)
event_left R left (event.Item c i) known names acts n d = heard_left R left i c.0 (known c.0) (names c.0) acts n d
event_left R left (event.Down c) known names acts n d = ends_left R left false (lost_with c.0) d
event_left R left _ known names acts n d = left.same d

-- the name, the link, the payload, the format, and the origin, or that which was joined to it, or none

pub record Follows (o : Option Origin) (d e : Delivery) : Type 0 where
  pub name : e.name ≡ d.name
  pub link : e.link ≡ d.link
  pub payload : e.payload ≡ d.payload
  pub format : e.format ≡ d.format
  pub presettled : e.presettled ≡ d.presettled
  pub lasting : e.lasting ≡ d.lasting
  pub origin : IsOrNone e.origin (either_origin o d.origin)

pub same : (d : Delivery) → Follows None d d
same d = record { name = refl; link = refl; payload = refl; format = refl; presettled = refl; lasting = refl; origin = inl refl }

pub origin_on : {a b c : Option Origin} → IsOrNone b a → IsOrNone c b → IsOrNone c a
origin_on first (inr none) = inr none
origin_on (inl e) (inl f) = inl (f ∙ e)
origin_on (inr none) (inl f) = inr (f ∙ none)

-- one that is joined later stands before one that was joined earlier, and before the first
pub origin_then : (a b c o p : Option Origin) → IsOrNone b (either_origin o a) → IsOrNone c (either_origin p b) → IsOrNone c (either_origin (either_origin p o) a)
origin_then a b c o (Some q) first next = next
origin_then a b c o None first next = origin_on first next

pub then_follows : (d e f : Delivery) (o p : Option Origin) → Follows o d e → Follows p e f → Follows (either_origin p o) d f
then_follows d e f o p first next = record {
  name = next.name ∙ first.name;
  link = next.link ∙ first.link;
  payload = next.payload ∙ first.payload;
  format = next.format ∙ first.format;
  presettled = next.presettled ∙ first.presettled;
  lasting = next.lasting ∙ first.lasting;
  origin = origin_then d.origin e.origin f.origin o p first.origin next.origin;
}

follows_left : Left (Follows None)
follows_left = record {
  same = same;
  next = λ d e f first rest. then_follows d e f None None first rest;
  untold = λ d. record { name = refl; link = refl; payload = refl; format = refl; presettled = refl; lasting = refl; origin = inr refl };
  forsaken = λ d. record { name = refl; link = refl; payload = refl; format = refl; presettled = refl; lasting = refl; origin = inr refl };
  unsettled = λ d. record { name = refl; link = refl; payload = refl; format = refl; presettled = refl; lasting = refl; origin = inr refl };
  suspended = λ d. record { name = refl; link = refl; payload = refl; format = refl; presettled = refl; lasting = refl; origin = inl refl };
  ended = λ d. record { name = refl; link = refl; payload = refl; format = refl; presettled = refl; lasting = refl; origin = inl refl };
  decided = λ d s. record { name = refl; link = refl; payload = refl; format = refl; presettled = refl; lasting = refl; origin = inl refl };
}

frames_follow : Frames (Follows None)
frames_follow x count d = record { name = refl; link = refl; payload = refl; format = refl; presettled = refl; lasting = refl; origin = inl refl }

pub item_follows : (numbers : DeliveryName → Option ℕ) (i : Item) (c n : ℕ) (sent : ℕ → ℕ → Option ℕ) (d : Delivery) → Follows None d (after_put numbers i c n sent d)
item_follows numbers i c n sent d = item_left (Follows None) follows_left frames_follow numbers i c n sent d

pub event_follows : (e : Event) (known : ℕ → ℕ → Option PeerChannel) (names : ℕ → ℕ → ℕ → Option ℕ) (acts : List Act) (n : ℕ) (d : Delivery)
    → Follows None d (after_event e known names acts n d)
event_follows e known names acts n d = event_left (Follows None) follows_left e known names acts n d

-- the same for a delivery that may exist, over a part of a trace

abbrev pub AllFollow : List Entry → Option Delivery → Option Delivery → Type 0
AllFollow later None v = v ≡ None
AllFollow later (Some d) v = WhileThere (Follows (joined_in later d.name) d) v

-- what was joined in two parts
pub joined_both : (later first : List Entry) (name : DeliveryName) → joined_in (later ++ first) name ≡ either_origin (joined_in later name) (joined_in first name)
joined_both [] first name = refl
joined_both (Did s ∷ later) first name = joined_both later first name
joined_both (Out c i ∷ later) first name = joined_both later first name
joined_both (Took c k ∷ later) first name = joined_both later first name
joined_both (Booked acts full ∷ later) first name = joined_both later first name
joined_both (Routed passage ∷ later) first name = joined_both later first name
joined_both (Began g ∷ later) first name = joined_both later first name
joined_both (Bound b ∷ later) first name =
    ap (λ (o : Option Origin). if is_row_of b.row name then either_origin (joins_standing b.kind) o else o) (joined_both later first name)
    ∙ by (is_row_of b.row name) (joins_standing b.kind) (joined_in later name) (joined_in first name)
  where
    by : (q : Bool) (j o p : Option Origin)
        → (if q then either_origin j (either_origin o p) else either_origin o p) ≡ either_origin (if q then either_origin j o else o) p
    by true (Some k) o p = refl
    by true None o p = refl
    by false j o p = refl

pub then_all : (first later : List Entry) (u v w : Option Delivery) → AllFollow first u v → AllFollow later v w → AllFollow (later ++ first) u w
then_all first later None None w one next = next
then_all first later None (Some e) w one next = absurd cc
then_all first later (Some d) None None one next = tt
then_all first later (Some d) None (Some f) one next = absurd cc
then_all first later (Some d) (Some e) None one next = tt
then_all first later (Some d) (Some e) (Some f) one next =
    let here : Follows (joined_in later d.name) e f = subst (λ (name : DeliveryName). Follows (joined_in later name) e f) one.name next in
    subst (λ (o : Option Origin). Follows o d f) (sym (joined_both later first d.name)) (then_follows d e f (joined_in first d.name) (joined_in later d.name) one here)

all_same : (v : Option Delivery) → AllFollow [] v v
all_same None = refl
all_same (Some d) = same d

pub unless_left : (P : Delivery → Type 0) (e : Delivery) → P e → WhileThere P (unless_over e)
unless_left P e holds = by (is_over e)
  where
    by : (b : Bool) → WhileThere P (if b then None else Some e)
    by true = tt
    by false = holds

all_gone : (later : List Entry) (v : Option Delivery) → AllFollow later v None
all_gone later None = refl
all_gone later (Some d) = tt

changed : (f : Delivery → Delivery) → ((d : Delivery) → Follows None d (f d)) → (v : Option Delivery) → AllFollow [] v (option_and_then (λ d. unless_over (f d)) v)
changed f follows None = refl
changed f follows (Some d) = unless_left (Follows None d) (f d) (follows d)

-- a binding with a number leaves another delivery, or takes its row
uncalled_follow : (name : DeliveryName) (v : Option Delivery) → AllFollow [] v (unless_called name v)
uncalled_follow name None = refl
uncalled_follow name (Some d) = by (same_name d.name name)
  where
    by : (b : Bool) → WhileThere (Follows None d) (if b then None else Some d)
    by true = tt
    by false = same d

none_joined : (b : Binding) (name : DeliveryName) → holds_standing b.kind ≡ None → joined_in (Bound b ∷ []) name ≡ None
none_joined b name none = ap (λ (j : Option Holding). if is_row_of b.row name then either_origin (option_and_then resumed_held j) None else None) none ∙ by (is_row_of b.row name)
  where
    by : (q : Bool) → (if q then either_origin None None else None) ≡ None
    by true = refl
    by false = refl

-- a part of a trace in which nothing is joined
nothing_joined : (later : List Entry) → ((name : DeliveryName) → joined_in later name ≡ None) → (v w : Option Delivery) → AllFollow [] v w → AllFollow later v w
nothing_joined later none None w follows = follows
nothing_joined later none (Some d) w follows = subst (λ (o : Option Origin). WhileThere (Follows o d) w) (sym (none d.name)) follows

-- the name of a binding is that of a delivery exactly if the delivery has its row: counters are new
fresh_counter : (t : List Entry) (k n : ℕ) → number_named t (Counter k) ≡ Some n → k ≤ counters t
fresh_counter [] k n h = absurd cc
fresh_counter (Did s ∷ t) k n h = fresh_counter t k n h
fresh_counter (Out c i ∷ t) k n h = fresh_counter t k n h
fresh_counter (Took c j ∷ t) k n h = fresh_counter t k n h
fresh_counter (Booked acts full ∷ t) k n h = fresh_counter t k n h
fresh_counter (Routed passage ∷ t) k n h = fresh_counter t k n h
fresh_counter (Began g ∷ t) k n h = absurd cc
fresh_counter (Bound b ∷ t) k n h = by b.row (is_none (holds_standing b.kind)) h (fresh_counter t k n)
  where
    next : k ≤ counters t → k ≤ counters t + 1
    next low = omega (arith, low)

    by_test : (q : Bool) → (counters t + 1 == k) ≡ q → (if q then Some (bindings t + 1) else number_named t (Counter k)) ≡ Some n → (number_named t (Counter k) ≡ Some n → k ≤ counters t) → k ≤ counters t + 1
    by_test true e h rest = let is : counters t + 1 ≡ k = eqb-true (counters t + 1) k e in omega (arith, is)
    by_test false e h rest = next (rest h)

    by : (row : Option RowNumber) (new : Bool)
        → (if new && same_name (name_of row (counters t + 1)) (Counter k) then Some (bindings t + 1) else number_named t (Counter k)) ≡ Some n
        → (number_named t (Counter k) ≡ Some n → k ≤ counters t) → k ≤ (if is_none row then counters t + 1 else counters t)
    by None true h rest = by_test (counters t + 1 == k) refl h rest
    by None false h rest = next (rest h)
    by (Some r) true h rest = rest h
    by (Some r) false h rest = rest h

pub has_its_row : (t : List Entry) (n : ℕ) (d : Delivery) (b : Binding) → delivery t n ≡ Some d → same_name d.name (name_in t b) ≡ is_row_of b.row d.name
has_its_row t n d b there = by b.row d.name (there_named t n d there)
  where
    apart : (k m : ℕ) → k ≤ m → (k == m + 1) ≡ false
    apart k m low = grind (arith, nat_tests)

    by : (row : Option RowNumber) (name : DeliveryName) → number_named t name ≡ Some n → same_name name (name_of row (counters t + 1)) ≡ is_row_of row name
    by (Some r) (Row q) known = refl
    by (Some r) (Counter k) known = refl
    by None (Row q) known = refl
    by None (Counter k) known = apart k (counters t) (fresh_counter t k n known)

held_follows : (q : Holding) (d : Delivery) → Follows (either_origin (resumed_held q) None) d (held_by q d)
held_follows (holding.Resumed p) d = record { name = refl; link = refl; payload = refl; format = refl; presettled = refl; lasting = refl; origin = inl refl }
held_follows (holding.Unresumed a) d = record { name = refl; link = refl; payload = refl; format = refl; presettled = refl; lasting = refl; origin = inl refl }
held_follows (holding.Settled a) d = record { name = refl; link = refl; payload = refl; format = refl; presettled = refl; lasting = refl; origin = inl refl }

joined_follows : (q : Holding) (is : Bool) (d : Delivery)
    → WhileThere (Follows (if is then either_origin (resumed_held q) None else None) d) (if is then unless_over (held_by q d) else Some d)
joined_follows q true d = unless_left (Follows (either_origin (resumed_held q) None) d) (held_by q d) (held_follows q d)
joined_follows q false d = same d

-- one that is joined where it stands
join_follows : (b : Binding) (t : List Entry) (n : ℕ) (q : Holding) → holds_standing b.kind ≡ Some q → AllFollow (Bound b ∷ []) (delivery t n) (joined (name_in t b) q (delivery t n))
join_follows b t n q joins = by (delivery t n) refl
  where
    by : (v : Option Delivery) → delivery t n ≡ v → AllFollow (Bound b ∷ []) v (joined (name_in t b) q v)
    by None there = refl
    by (Some d) there =
        let its : same_name d.name (name_in t b) ≡ is_row_of b.row d.name = has_its_row t n d b there in
        let its_origin : joined_in (Bound b ∷ []) d.name ≡ (if same_name d.name (name_in t b) then either_origin (resumed_held q) None else None)
        = ap (λ (j : Option Holding). if is_row_of b.row d.name then either_origin (option_and_then resumed_held j) None else None) joins
        ∙ ap (λ (is : Bool). if is then either_origin (resumed_held q) None else None) (sym its) in
        subst (λ (o : Option Origin). WhileThere (Follows o d) (joined (name_in t b) q (Some d))) (sym its_origin) (joined_follows q (same_name d.name (name_in t b)) d)

pub entry_follows : (e : Entry) (t : List Entry) (n : ℕ) → n ≤ bindings t → AllFollow (e ∷ []) (delivery t n) (delivery (e ∷ t) n)
entry_follows (Did s) t n given =
    nothing_joined (Did s ∷ []) (λ name. refl) (delivery t n) (delivery (Did s ∷ t) n)
    (changed (after_event s.event (channels_found t) (named t) (acts_found t) n) (event_follows s.event (channels_found t) (named t) (acts_found t) n) (delivery t n))
entry_follows (Out c i) t n given =
    nothing_joined (Out c i ∷ []) (λ name. refl) (delivery t n) (delivery (Out c i ∷ t) n)
    (changed (after_put (number_named t) i c n (sending t c)) (item_follows (number_named t) i c n (sending t c)) (delivery t n))
entry_follows (Took c k) t n given = nothing_joined (Took c k ∷ []) (λ name. refl) (delivery t n) (delivery t n) (all_same (delivery t n))
entry_follows (Began g) t n given = all_gone (Began g ∷ []) (delivery t n)
entry_follows (Booked acts full) t n given = nothing_joined (Booked acts full ∷ []) (λ name. refl) (delivery t n) (delivery t n) (all_same (delivery t n))
entry_follows (Routed passage) t n given = nothing_joined (Routed passage ∷ []) (λ name. refl) (delivery t n) (delivery t n) (all_same (delivery t n))
entry_follows (Bound b) t n given = by (holds_standing b.kind) refl
  where
    too_high : (n k : ℕ) → n ≤ k → k + 1 ≡ n → ⊥
    too_high n k h e = omega (arith, h, e)

    newest : DeliveryName
    newest = name_in t b

    by_number : AllFollow [] (delivery t n) (if bindings t + 1 == n then Some (bound newest (rank_in t b) b) else unless_called newest (delivery t n))
    by_number = by_test (bindings t + 1 == n) (λ e. absurd (too_high n (bindings t) given (eqb-true (bindings t + 1) n e))) (λ e. rw e (uncalled_follow newest (delivery t n)))

    by : (j : Option Holding) → holds_standing b.kind ≡ j → AllFollow (Bound b ∷ []) (delivery t n) (with_binding j newest (rank_in t b) b (bindings t + 1 == n) (delivery t n))
    by None none =
        nothing_joined (Bound b ∷ []) (λ name. none_joined b name none) (delivery t n) (if bindings t + 1 == n then Some (bound newest (rank_in t b) b) else unless_called newest (delivery t n)) by_number
    by (Some q) joins = join_follows b t n q joins

pub more_bound : (e : Entry) (t : List Entry) (n : ℕ) → is_opening e ≡ false → n ≤ bindings t → n ≤ bindings (e ∷ t)
more_bound (Did s) t n one h = h
more_bound (Out c i) t n one h = h
more_bound (Took c k) t n one h = h
more_bound (Began g) t n one h = absurd cc
more_bound (Booked acts full) t n one h = h
more_bound (Routed passage) t n one h = h
more_bound (Bound b) t n one h = by (is_none (holds_standing b.kind))
  where
    one_more : (n k : ℕ) → n ≤ k → n ≤ k + 1
    one_more n k h = omega (arith, h)

    by : (new : Bool) → n ≤ (if new then bindings t + 1 else bindings t)
    by true = one_more n (bindings t) h
    by false = h

pub all_bound : (later t : List Entry) (n : ℕ) → IsOneRun later → n ≤ bindings t → n ≤ bindings (later ++ t)
all_bound [] t n one h = h
all_bound (e ∷ later) t n one h = more_bound e (later ++ t) n one.0 (all_bound later t n one.1 h)

pub later_follows : (later t : List Entry) (n : ℕ) → IsOneRun later → n ≤ bindings t → AllFollow later (delivery t n) (delivery (later ++ t) n)
later_follows [] t n one given = all_same (delivery t n)
later_follows (e ∷ later) t n one given =
    then_all later (e ∷ []) (delivery t n) (delivery (later ++ t) n) (delivery (e ∷ later ++ t) n) (later_follows later t n one.1 given)
    (entry_follows e (later ++ t) n (all_bound later t n one.1 given))
