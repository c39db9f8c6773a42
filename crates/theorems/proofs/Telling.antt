-- The outcome of each delivery is reported at most once: after that no report is due.
use Rattle.std.proofs.Common.{◌≡◌, ◌∙◌, sym, ap, refl, subst, ◌⊎◌, inl, inr, ℕ, ◌+◌, ◌≤◌, Bool, true, false, ◌&&◌, List, [], ◌∷◌, ◌++◌, arith}
use Rattle.std.specs.Prelude.{◌==◌, ◌^◌, nat_lt, nat_le, Option, Some, None, if◌then◌else◌, option_and_then, unwrap_or}
use Rattle.std.proofs.lemmas.Bool.{eqb-true}
use Rattle.amqp_model.specs.declared.perf.Disposition.{Disposition}
use Rattle.amqp_model.specs.declared.perf.Perf.{Perf}
use Rattle.amqp_model.specs.declared.perf.Perf.TheVariants as perf
use Rattle.amqp_model.specs.declared.perf.Role.{Role}
use Rattle.amqp_model.specs.declared.perf.Role.TheVariants.{Sender, Receiver}
use Rattle.amqp_model.specs.declared.item.Item.{Item}
use Rattle.amqp_model.specs.declared.item.Item.TheVariants as item
use Rattle.router_trace.specs.declared.binding.Binding.{Binding}
use Rattle.router_trace.specs.declared.binding.DeliveryName.{DeliveryName}
use Rattle.router_trace.specs.declared.binding.Holding.{Holding}
use Rattle.router_trace.specs.declared.binding.Holding.TheVariants as holding
use Rattle.router_trace.specs.declared.binding.Origin.{Origin}
use Rattle.router_trace.specs.Trace.{Entry, Did, Out, Took, Bound, Booked, Routed, Began, is_opening, IsOneRun}
use Rattle.router_trace.specs.Deliveries.{Delivery, bindings, bound, joined, joins_standing, with_binding, name_in, same_name, number_named, unless_called, delivery, sending, named, unless_over, either_origin, source, untold, unsettled, told, is_meant, last_of, origin_id, ended_by, after_put, after_event, channels_found, acts_found, rank_in, holds_standing, held_by, resumed_held}
use Rattle.amqp_session.specs.Serials.{distance}
use Rattle.amqp_session.specs.Ranges.{in_range}
use Rattle.theorems.specs.OneConsumer.{IsOrNone, is_row_of, joined_in, WhileThere}
use Rattle.theorems.specs.Told.{is_joined, tells_as, tells_in, tells, tellings, IsUnder}
use Rattle.state_connections.proofs.Lists.{by_test}
use Rattle.theorems.proofs.Followed.{Left, Frames, ends_left, item_left, event_left, Follows, AllFollow, all_bound, more_bound, unless_left, item_follows, event_follows, entry_follows, has_its_row}
use Rattle.theorems.proofs.Bindings.{there_bound}
use Rattle.theorems.proofs.Tests.{none_not_some}

abbrev NoOrigin : Delivery → Type 0
NoOrigin d = d.origin ≡ None

-- a delivery without a report due stays so
abbrev StaysNone : Delivery → Delivery → Type 0
StaysNone d e = d.origin ≡ None → e.origin ≡ None

stays_left : Left StaysNone
stays_left = record {
  same = λ d none. none;
  next = λ d e f first rest none. rest (first none);
  untold = λ d none. refl;
  forsaken = λ d none. refl;
  unsettled = λ d none. refl;
  ended = λ d none. none;
  suspended = λ d none. none;
  decided = λ d s none. none;
}

-- reported

-- what is to be told, and what was told, is the producer's
of_source : (o p : Option Origin) (c own k : ℕ) → origin_id o c own ≡ Some k → origin_id (either_origin o p) c own ≡ Some k
of_source None p c own k e = absurd cc
of_source (Some q) p c own k e = e

meant_source : (x : Disposition) (o p : Option Origin) (c own : ℕ) → is_meant x (origin_id o c own) ≡ true → is_meant x (origin_id (either_origin o p) c own) ≡ true
meant_source x None p c own e = absurd cc
meant_source x (Some q) p c own e = e

told_none : (role : Role) (x : Disposition) (c own : ℕ) (d : Delivery) → tells_as role x c own d.origin ≡ true → (told role x c own d).origin ≡ None
told_none Receiver x c own d h = rw (meant_source x d.origin d.told c own h) (by x.settled)
  where
    by : (b : Bool) → (if b then untold d else unsettled d).origin ≡ None
    by true = refl
    by false = refl
told_none Sender x c own d h = absurd cc

none_after : (numbers : DeliveryName → Option ℕ) (body : Perf) (sasl : Bool) (c own n : ℕ) (payload : List ℕ) (sent : ℕ → ℕ → Option ℕ) (d : Delivery) → tells_in body c own d.origin ≡ true
    → (after_put numbers (item.Frame sasl own body payload) c n sent d).origin ≡ None
none_after numbers (perf.Disposition x) sasl c own n payload sent d h =
    ends_left StaysNone stays_left false (ended_by (item.Frame sasl own (perf.Disposition x) payload) c) (told x.role x c own d) (told_none x.role x c own d h)
none_after numbers _ sasl c own n payload sent d h = absurd cc

told_after : (numbers : DeliveryName → Option ℕ) (i : Item) (c n : ℕ) (sent : ℕ → ℕ → Option ℕ) (v : Option Delivery) → tells i c v ≡ true
    → WhileThere NoOrigin (option_and_then (λ d. unless_over (after_put numbers i c n sent d)) v)
told_after numbers i c n sent None h = tt
told_after numbers (item.Frame sasl own body payload) c n sent (Some d) h =
    unless_left NoOrigin (after_put numbers (item.Frame sasl own body payload) c n sent d) (none_after numbers body sasl c own n payload sent d h)
told_after numbers _ c n sent (Some d) h = absurd cc

-- not reported again

not_as : (role : Role) (x : Disposition) (c own : ℕ) → tells_as role x c own None ≡ false
not_as Receiver x c own = refl
not_as Sender x c own = refl

not_in : (body : Perf) (c own : ℕ) → tells_in body c own None ≡ false
not_in (perf.Disposition x) c own = not_as x.role x c own
not_in _ c own = refl

not_again : (i : Item) (c : ℕ) (v : Option Delivery) → WhileThere NoOrigin v → tells i c v ≡ false
not_again (item.Frame sasl own body payload) c None none = refl
not_again (item.Frame sasl own body payload) c (Some d) none = ap (λ (origin : Option Origin). tells_in body c own origin) none ∙ not_in body c own
not_again _ c v none = refl

follows_none : (d e : Delivery) → d.origin ≡ None → Follows None d e → e.origin ≡ None
follows_none d e none follows = by follows.origin
  where
    by : IsOrNone e.origin d.origin → e.origin ≡ None
    by (inl is) = is ∙ none
    by (inr is) = is

-- an entry that joins nothing gives no delivery an origin
quiet_none : (x : Entry) (t : List Entry) (n : ℕ) → ((name : DeliveryName) → joined_in (x ∷ []) name ≡ None) → WhileThere NoOrigin (delivery t n) → n ≤ bindings t → WhileThere NoOrigin (delivery (x ∷ t) n)
quiet_none x t n nothing none given = by (delivery t n) (delivery (x ∷ t) n) none (entry_follows x t n given)
  where
    by : (v w : Option Delivery) → WhileThere NoOrigin v → AllFollow (x ∷ []) v w → WhileThere NoOrigin w
    by None None none follows = tt
    by None (Some e) none follows = absurd cc
    by (Some d) None none follows = tt
    by (Some d) (Some e) none follows = follows_none d e none (subst (λ (o : Option Origin). Follows o d e) (nothing d.name) follows)

-- at most once

pub record IsSpent (u : List Entry) (n : ℕ) : Type 0 where
  pub once : tellings u n ≡ 1
  pub given : n ≤ bindings u
  pub none : WhileThere NoOrigin (delivery u n)

abbrev pub Spent : List Entry → ℕ → Type 0
Spent u n = (tellings u n ≡ 0) ⊎ IsSpent u n

same_count : (a b k : ℕ) → b ≡ 0 → a ≡ k → a + b ≡ k
same_count a b k e h = omega (arith, e, h)

put_spent : (c : ℕ) (i : Item) (t : List Entry) (n : ℕ) → Spent t n → Spent (Out c i ∷ t) n
put_spent c i t n was = by_test (tells i c (delivery t n)) (λ e. now e was) (λ e. then_same e was)
  where
    there : (v : Option Delivery) → delivery t n ≡ v → tells i c v ≡ true → n ≤ bindings t
    there None is e = absurd (false_true (sym (not_again i c None tt) ∙ e))
      where
        false_true : false ≡ true → ⊥
        false_true h = cc
    there (Some d) is e = there_bound t n d is

    now : tells i c (delivery t n) ≡ true → Spent t n → Spent (Out c i ∷ t) n
    now e (inl none) = inr (record {
      once = rw e (plus_one (tellings t n) none);
      given = there (delivery t n) refl e;
      none = told_after (number_named t) i c n (sending t c) (delivery t n) e;
    })
      where
        plus_one : (a : ℕ) → a ≡ 0 → a + 1 ≡ 1
        plus_one a h = omega (arith, h)
    now e (inr spent) = absurd (false_true (sym (not_again i c (delivery t n) spent.none) ∙ e))
      where
        false_true : false ≡ true → ⊥
        false_true h = cc

    then_same : tells i c (delivery t n) ≡ false → Spent t n → Spent (Out c i ∷ t) n
    then_same e (inl none) = inl (rw e (same_count (tellings t n) 0 0 refl none))
    then_same e (inr spent) = inr (record {
      once = rw e (same_count (tellings t n) 0 1 refl spent.once);
      given = spent.given;
      none = quiet_none (Out c i) t n (λ name. refl) spent.none spent.given;
    })

-- a binding gives no other delivery an origin than the one that it joins
unjoined_none : (b : Binding) (t : List Entry) (n : ℕ) → is_joined (joins_standing b.kind) (name_in t b) (delivery t n) ≡ false → n ≤ bindings t → WhileThere NoOrigin (delivery t n)
    → WhileThere NoOrigin (delivery (Bound b ∷ t) n)
unjoined_none b t n apart given none = by (holds_standing b.kind) apart
  where
    newest : DeliveryName
    newest = name_in t b

    too_high : n ≤ bindings t → bindings t + 1 ≡ n → ⊥
    too_high h e = omega (arith, h, e)

    uncalled_none : (v : Option Delivery) → WhileThere NoOrigin v → WhileThere NoOrigin (unless_called newest v)
    uncalled_none None h = tt
    uncalled_none (Some d) h = by_name (same_name d.name newest)
      where
        by_name : (q : Bool) → WhileThere NoOrigin (if q then None else Some d)
        by_name true = tt
        by_name false = h

    other_none : (q : Holding) (v : Option Delivery) → is_joined (resumed_held q) newest v ≡ false → WhileThere NoOrigin v → WhileThere NoOrigin (joined newest q v)
    other_none q None e h = tt
    other_none (holding.Resumed p) (Some d) e h = rw e h
    other_none (holding.Unresumed a) (Some d) e h =
        by_test (same_name d.name newest) (λ f. rw f (unless_left NoOrigin (held_by (holding.Unresumed a) d) h)) (λ f. rw f h)
    other_none (holding.Settled a) (Some d) e h =
        by_test (same_name d.name newest) (λ f. rw f (unless_left NoOrigin (held_by (holding.Settled a) d) h)) (λ f. rw f h)

    by : (j : Option Holding) → is_joined (option_and_then resumed_held j) newest (delivery t n) ≡ false → WhileThere NoOrigin (with_binding j newest (rank_in t b) b (bindings t + 1 == n) (delivery t n))
    by None e = by_test (bindings t + 1 == n) (λ f. absurd (too_high given (eqb-true (bindings t + 1) n f))) (λ f. rw f (uncalled_none (delivery t n) none))
    by (Some q) e = other_none q (delivery t n) e none

pub spent : (u : List Entry) (n : ℕ) → Spent u n
spent [] n = inl refl
spent (Did s ∷ t) n = by (spent t n)
  where
    by : Spent t n → Spent (Did s ∷ t) n
    by (inl none) = inl none
    by (inr was) = inr (record { once = was.once; given = was.given; none = quiet_none (Did s) t n (λ name. refl) was.none was.given })
spent (Out c i ∷ t) n = put_spent c i t n (spent t n)
spent (Took c k ∷ t) n = by (spent t n)
  where
    by : Spent t n → Spent (Took c k ∷ t) n
    by (inl none) = inl none
    by (inr was) = inr (record { once = was.once; given = was.given; none = was.none })
spent (Began g ∷ t) n = inl refl
spent (Booked acts full ∷ t) n = by (spent t n)
  where
    by : Spent t n → Spent (Booked acts full ∷ t) n
    by (inl none) = inl none
    by (inr was) = inr (record { once = was.once; given = was.given; none = was.none })
spent (Routed passage ∷ t) n = by (spent t n)
  where
    by : Spent t n → Spent (Routed passage ∷ t) n
    by (inl none) = inl none
    by (inr was) = inr (record { once = was.once; given = was.given; none = was.none })
spent (Bound b ∷ t) n = by_test (is_joined (joins_standing b.kind) (name_in t b) (delivery t n)) (λ e. inl (rw e refl)) (λ e. as_before e (spent t n))
  where
    as_before : is_joined (joins_standing b.kind) (name_in t b) (delivery t n) ≡ false → Spent t n → Spent (Bound b ∷ t) n
    as_before e (inl none) = inl (rw e none)
    as_before e (inr was) = inr (record {
      once = rw e was.once;
      given = more_bound (Bound b) t n refl was.given;
      none = unjoined_none b t n e was.given was.none;
    })

pub told_at_most_once : (u : List Entry) (n : ℕ) → tellings u n ≤ 1
told_at_most_once u n = by (spent u n)
  where
    by : Spent u n → tellings u n ≤ 1
    by (inl none) = at_most (tellings u n) none
      where
        at_most : (a : ℕ) → a ≡ 0 → a ≤ 1
        at_most a h = omega (arith, h)
    by (inr was) = at_most (tellings u n) was.once
      where
        at_most : (a : ℕ) → a ≡ 1 → a ≤ 1
        at_most a h = omega (arith, h)

-- as long as a report is due, none was made
pub none_before : (t : List Entry) (n : ℕ) (d : Delivery) (p : Origin) → delivery t n ≡ Some d → d.origin ≡ Some p → tellings t n ≡ 0
none_before t n d p there origin = by (spent t n)
  where
    differ : Some p ≡ None → ⊥
    differ e = cc

    by : Spent t n → tellings t n ≡ 0
    by (inl none) = none
    by (inr was) = absurd (differ (sym origin ∙ subst (λ (v : Option Delivery). WhileThere NoOrigin v) there was.none))

-- with an id: no delivery gets a report due with an id, and after a disposition of the id none has one

abbrev NotUnder : ℕ → ℕ → ℕ → Delivery → Type 0
NotUnder c own id d = IsUnder c own id d → ⊥

-- a delivery with a report due with an id had it before
abbrev WasUnder : ℕ → ℕ → ℕ → Delivery → Delivery → Type 0
WasUnder c own id d e = IsUnder c own id e → IsUnder c own id d

none_under : (id : ℕ) → None ≡ Some id → ⊥
none_under id e = cc

was_left : (c own id : ℕ) → Left (WasUnder c own id)
was_left c own id = record {
  same = λ d under. under;
  next = λ d e f first rest under. first (rest under);
  untold = λ d under. absurd (none_under id under);
  forsaken = λ d under. absurd (none_under id under);
  unsettled = λ d under. absurd (none_under id under);
  ended = λ d under. under;
  suspended = λ d under. under;
  decided = λ d s under. under;
}

was_frames : (c own id : ℕ) → Frames (WasUnder c own id)
was_frames c own id x count d under = under

-- ... unless a producer's delivery is joined to it
abbrev UnlessJoined : ℕ → ℕ → ℕ → List Entry → Delivery → Type 0
UnlessJoined c own id later d = joined_in later d.name ≡ None → NotUnder c own id d

abbrev Under : ℕ → ℕ → ℕ → List Entry → List Entry → ℕ → Type 0
Under c own id later t n = WhileThere (UnlessJoined c own id later) (delivery t n)

-- what changes no name, and gives no report that is due
changed_under : (c own id : ℕ) (later : List Entry) (f : Delivery → Delivery) → ((d : Delivery) → WasUnder c own id d (f d)) → ((d : Delivery) → (f d).name ≡ d.name)
    → (v : Option Delivery) → WhileThere (UnlessJoined c own id later) v → WhileThere (UnlessJoined c own id later) (option_and_then (λ d. unless_over (f d)) v)
changed_under c own id later f was named None none = tt
changed_under c own id later f was named (Some d) none =
    unless_left (UnlessJoined c own id later) (f d) (λ alone under. none (sym (ap (joined_in later) (named d)) ∙ alone) (was d under))

-- a binding
bound_under : (c own id : ℕ) (later : List Entry) (b : Binding) (t : List Entry) (n : ℕ) → n ≤ bindings t → Under c own id later t n → Under c own id (Bound b ∷ later) (Bound b ∷ t) n
bound_under c own id later b t n given none = by (holds_standing b.kind) refl
  where
    newest : DeliveryName
    newest = name_in t b

    too_high : n ≤ bindings t → bindings t + 1 ≡ n → ⊥
    too_high h e = omega (arith, h, e)

    before : (name : DeliveryName) → joined_in (Bound b ∷ later) name ≡ None → joined_in later name ≡ None
    before name = by_row (is_row_of b.row name) (joins_standing b.kind)
      where
        by_row : (q : Bool) (j : Option Origin) → (if q then either_origin j (joined_in later name) else joined_in later name) ≡ None → joined_in later name ≡ None
        by_row true None e = e
        by_row true (Some p) e = absurd (none_not_some (sym e))
        by_row false j e = e

    stays : (v : Option Delivery) → WhileThere (UnlessJoined c own id later) v → WhileThere (UnlessJoined c own id (Bound b ∷ later)) (unless_called newest v)
    stays None h = tt
    stays (Some d) h = by_name (same_name d.name newest)
      where
        by_name : (q : Bool) → WhileThere (UnlessJoined c own id (Bound b ∷ later)) (if q then None else Some d)
        by_name true = tt
        by_name false = λ alone. h (before d.name alone)

    joins : (q : Holding) → holds_standing b.kind ≡ Some q → (v : Option Delivery) → delivery t n ≡ v → WhileThere (UnlessJoined c own id later) v
        → WhileThere (UnlessJoined c own id (Bound b ∷ later)) (joined newest q v)
    joins q is None there h = tt
    joins q is (Some d) there h =
        by_test (same_name d.name newest)
        (λ e. rw e (unless_left (UnlessJoined c own id (Bound b ∷ later)) (held_by q d) (held q is (sym (has_its_row t n d b there) ∙ e))))
        (λ e. rw e (λ alone. h (before d.name alone)))
      where
        of_row : (p : Origin) → holds_standing b.kind ≡ Some (holding.Resumed p) → is_row_of b.row d.name ≡ true → joined_in (Bound b ∷ later) d.name ≡ Some p
        of_row p is e = ap (λ (q : Bool). if q then either_origin (joins_standing b.kind) (joined_in later d.name) else joined_in later d.name) e
            ∙ ap (λ (j : Option Holding). either_origin (option_and_then resumed_held j) (joined_in later d.name)) is

        held : (q : Holding) → holds_standing b.kind ≡ Some q → is_row_of b.row d.name ≡ true → UnlessJoined c own id (Bound b ∷ later) (held_by q d)
        held (holding.Resumed p) is e = λ alone. absurd (none_not_some (sym alone ∙ of_row p is e))
        held (holding.Unresumed a) is e = λ alone. h (before d.name alone)
        held (holding.Settled a) is e = λ alone. h (before d.name alone)

    by : (j : Option Holding) → holds_standing b.kind ≡ j → WhileThere (UnlessJoined c own id (Bound b ∷ later)) (with_binding j newest (rank_in t b) b (bindings t + 1 == n) (delivery t n))
    by None is = by_test (bindings t + 1 == n) (λ e. absurd (too_high given (eqb-true (bindings t + 1) n e))) (λ e. rw e (stays (delivery t n) none))
    by (Some q) is = joins q is (delivery t n) refl none

entry_under : (c own id : ℕ) (later : List Entry) (e : Entry) (t : List Entry) (n : ℕ) → is_opening e ≡ false → n ≤ bindings t → Under c own id later t n → Under c own id (e ∷ later) (e ∷ t) n
entry_under c own id later (Did s) t n one given none =
    changed_under c own id later (after_event s.event (channels_found t) (named t) (acts_found t) n) (event_left (WasUnder c own id) (was_left c own id) s.event (channels_found t) (named t) (acts_found t) n)
    (λ d. (event_follows s.event (channels_found t) (named t) (acts_found t) n d).name) (delivery t n) none
entry_under c own id later (Out d i) t n one given none =
    changed_under c own id later (after_put (number_named t) i d n (sending t d)) (item_left (WasUnder c own id) (was_left c own id) (was_frames c own id) (number_named t) i d n (sending t d))
    (λ e. (item_follows (number_named t) i d n (sending t d) e).name) (delivery t n) none
entry_under c own id later (Took d k) t n one given none = none
entry_under c own id later (Began g) t n one given none = absurd cc
entry_under c own id later (Booked acts full) t n one given none = none
entry_under c own id later (Routed passage) t n one given none = none
entry_under c own id later (Bound b) t n one given none = bound_under c own id later b t n given none

later_under : (c own id : ℕ) (later t : List Entry) (n : ℕ) → IsOneRun later → n ≤ bindings t → WhileThere (NotUnder c own id) (delivery t n) → Under c own id later (later ++ t) n
later_under c own id [] t n one given none = first (delivery t n) none
  where
    first : (v : Option Delivery) → WhileThere (NotUnder c own id) v → WhileThere (UnlessJoined c own id []) v
    first None h = tt
    first (Some d) h = λ alone. h
later_under c own id (e ∷ later) t n one given none =
    entry_under c own id later e (later ++ t) n one.0 (all_bound later t n one.1 given) (later_under c own id later t n one.1 given none)

-- the id of a disposition of one id is in its range
own_range : (first : ℕ) → in_range first first first ≡ true
own_range first = by (distance first first) (none_between first)
  where
    none_between : (k : ℕ) → distance k k ≡ 0
    none_between k = omega arith

    by : (d : ℕ) → d ≡ 0 → (nat_lt d (2 ^ 31) && nat_le d d) ≡ true
    by d e = rw e refl

told_under : (role : Role) (x : Disposition) (c own : ℕ) (d : Delivery) → role ≡ Receiver → x.last ≡ None → NotUnder c own x.first (told role x c own d)
told_under Sender x c own d role one under = absurd cc
told_under Receiver x c own d role one under =
    by_test (is_meant x (origin_id (source d) c own))
    (λ e. by_test x.settled (λ s. none_under x.first (rw (e, s) at under)) (λ s. none_under x.first (rw (e, s) at under)))
    (λ e. let was : origin_id d.origin c own ≡ Some x.first = rw e at under
    in let last : last_of x ≡ x.first = ap (λ (v : Option ℕ). unwrap_or v x.first) one
    in let meant : is_meant x (origin_id (source d) c own) ≡ true
    = ap (λ (v : Option ℕ). is_meant x v) (of_source d.origin d.told c own x.first was) ∙ ap (λ (k : ℕ). in_range x.first k x.first) last ∙ own_range x.first
    in clash (sym meant ∙ e))
  where
    clash : true ≡ false → ⊥
    clash e = cc

pub told_anew : (t later : List Entry) (c own : ℕ) (sasl : Bool) (x : Disposition) (payload : List ℕ) (n : ℕ) → IsOneRun later → x.role ≡ Receiver → x.last ≡ None
    → n ≤ bindings t → WhileThere (λ d. joined_in later d.name ≡ None → IsUnder c own x.first d → ⊥) (delivery (later ++ Out c (item.Frame sasl own (perf.Disposition x) payload) ∷ t) n)
told_anew t later c own sasl x payload n run role one given =
    later_under c own x.first later (Out c (item.Frame sasl own (perf.Disposition x) payload) ∷ t) n run given (by (delivery t n))
  where
    by : (v : Option Delivery) → WhileThere (NotUnder c own x.first) (option_and_then (λ d. unless_over (after_put (number_named t) (item.Frame sasl own (perf.Disposition x) payload) c n (sending t c) d)) v)
    by None = tt
    by (Some d) =
        unless_left (NotUnder c own x.first) (after_put (number_named t) (item.Frame sasl own (perf.Disposition x) payload) c n (sending t c) d)
        (λ under. told_under x.role x c own d role one
        (ends_left (WasUnder c own x.first) (was_left c own x.first) false (ended_by (item.Frame sasl own (perf.Disposition x) payload) c) (told x.role x c own d) under))
