-- A delivery that isn't undecided never becomes undecided again.
use Rattle.std.proofs.Common.{◌≡◌, ◌≤◌, ◌+◌, ℕ, Bool, true, false, refl, arith, ◌∷◌, length, List, Option, Some, None}
use Rattle.std.specs.Prelude.{◌&&◌, ◌||◌, ◌==◌, not, if◌then◌else◌, is_none}
use Rattle.std.specs.Option.{option_and_then}
use Rattle.std.proofs.lemmas.Bool.{eqb-true}
use Rattle.amqp_model.specs.declared.perf.Disposition.{Disposition}
use Rattle.amqp_model.specs.declared.perf.Perf.{Perf}
use Rattle.amqp_model.specs.declared.perf.Perf.TheVariants as perf
use Rattle.amqp_model.specs.declared.perf.Role.{Role}
use Rattle.amqp_model.specs.declared.perf.Role.TheVariants.{Sender, Receiver}
use Rattle.amqp_model.specs.declared.perf.Transfer.{Transfer}
use Rattle.amqp_model.specs.declared.state.DeliveryState.{DeliveryState}
use Rattle.amqp_model.specs.declared.item.Item.{Item}
use Rattle.amqp_model.specs.declared.item.Item.TheVariants as item
use Rattle.book_model.specs.declared.act.Act.{Act}
use Rattle.router_trace.specs.declared.binding.DeliveryName.{DeliveryName}
use Rattle.router_trace.specs.declared.binding.Holding.{Holding}
use Rattle.router_trace.specs.declared.binding.Holding.TheVariants as holding
use Rattle.router_trace.specs.declared.event.Event.{Event}
use Rattle.router_trace.specs.declared.event.Event.TheVariants as event
use Rattle.router_trace.specs.declared.channel.PeerChannel.{PeerChannel}
use Rattle.router_trace.specs.declared.handle.Attachment.{Attachment}
use Rattle.router_trace.specs.Trace.{Entry, Trace, Did, Out, Took, Booked, Routed, Bound, Began}
use Rattle.router_trace.specs.Deliveries.{Delivery, source, delivery, bindings, bound, held_by, holds_standing, joined, with_binding, name_in, same_name, number_named, unless_called, unless_over, is_over, is_undecided, after_ends, is_gone_with, ended, decided_at_end, suspended_at_end, untold, unsettled, failed, closes, after_put, after_frame, after_event, put_in, is_number, carried, tag_in, told, is_meant, origin_id, heard, heard_in, given, outcome_named, outcome_or, disposed, decided, is_settled_at, is_on, ended_by, lost_with, named, sending, sender, forsaken, channels_found, acts_found, rank_in}
use Rattle.amqp_model.specs.declared.state.DeliveryState.TheVariants as state
use Rattle.state_deliveries.specs.declared.change.Change.{Change}
use Rattle.state_deliveries.specs.declared.change.Change.TheVariants as change
use Rattle.state_deliveries.specs.Giving.{after_acts}
use Rattle.state_deliveries.specs.Naming.{is_open}
use Rattle.state_deliveries.specs.Stepping.{is_gone, comes_with_id, is_decided_by, changed, after_change}

abbrev Closes : (Delivery → Delivery) → Type 0
Closes f = (d : Delivery) → is_undecided d ≡ false → is_undecided (f d) ≡ false

-- once it is over it isn't undecided
closed_unless : (d : Delivery) → is_undecided d ≡ false → is_open (unless_over d) ≡ false
closed_unless d e = by_test (is_over d)
  where
    by_test : (b : Bool) → is_open (if b then None else Some d) ≡ false
    by_test true = refl
    by_test false = e

closed_after : (f : Delivery → Delivery) → Closes f → (v : Option Delivery) → is_open v ≡ false → is_open (option_and_then (λ d. unless_over (f d)) v) ≡ false
closed_after f closes None e = refl
closed_after f closes (Some d) e = closed_unless (f d) (closes d e)

either : (b : Bool) (x y : Delivery) → is_undecided x ≡ false → is_undecided y ≡ false → is_undecided (if b then x else y) ≡ false
either true x y e f = e
either false x y e f = f

and_not_or : (a p s : Bool) → s ≡ true → (a && not (p || s)) ≡ false
and_not_or true true s e = refl
and_not_or true false true e = refl
and_not_or true false false e = absurd cc
and_not_or false p s e = refl

and_same : (a b : Bool) → (true && b) ≡ false → (a && b) ≡ false
and_same true b e = e
and_same false b e = refl

ended_closed : (closed : Bool) (d : Delivery) → is_undecided (ended closed d) ≡ false
ended_closed closed d = by_suspended d.suspended refl
  where
    decided : (o : Option DeliveryState) → (is_none (if is_none o then Some failed else o) && not (d.presettled || d.suspended)) ≡ false
    decided None = refl
    decided (Some s) = refl

    suspends : (o : Option DeliveryState) → (is_none o && not (d.presettled || is_none o)) ≡ false
    suspends None = and_not_or true d.presettled true refl
    suspends (Some s) = refl

    by_suspended : (b : Bool) → d.suspended ≡ b → is_undecided (if b then d else (if d.lasting && not closed then suspended_at_end d else decided_at_end d)) ≡ false
    by_suspended true e = and_not_or (is_none d.outcome) d.presettled d.suspended e
    by_suspended false e = either (d.lasting && not closed) (suspended_at_end d) (decided_at_end d) (suspends d.outcome) (decided d.outcome)

untold_closed : Closes untold
untold_closed d e = e

ends_closed : (closed : Bool) (gone : Attachment → Bool) → Closes (after_ends closed gone)
ends_closed closed gone d e =
    let on : is_undecided (if gone d.link then ended closed d else d) ≡ false = either (gone d.link) (ended closed d) d (ended_closed closed d) e in
    either (is_gone_with gone (sender (if gone d.link then ended closed d else d))) (forsaken (if gone d.link then ended closed d else d)) (if gone d.link then ended closed d else d) on on

frame_closed : (x : Transfer) (count : ℕ) → Closes (after_frame x count)
frame_closed x count d e = by_test (d.presettled && not x.more)
  where
    by_test : (b : Bool) → (is_none (if b then Some state.Accepted else d.outcome) && not (d.presettled || d.suspended)) ≡ false
    by_test true = refl
    by_test false = e

told_closed : (r : Role) (x : Disposition) (c o : ℕ) → Closes (told r x c o)
told_closed Receiver x c o d e = either (is_meant x (origin_id (source d) c o)) (if x.settled then untold d else unsettled d) d (either x.settled (untold d) (unsettled d) e e) e
told_closed Sender x c o d e = e

put_in_closed : (numbers : DeliveryName → Option ℕ) (body : Perf) (c own n : ℕ) (sent : ℕ → ℕ → Option ℕ) (count : ℕ) → Closes (put_in numbers body c own n sent count)
put_in_closed numbers (perf.Transfer x) c own n sent count d e = either (is_number (carried numbers (tag_in x) (sent own x.handle)) n) (after_frame x count d) d (frame_closed x count d e) e
put_in_closed numbers (perf.Disposition x) c own n sent count d e = told_closed x.role x c own d e
put_in_closed numbers _ c own n sent count d e = e

put_closed : (numbers : DeliveryName → Option ℕ) (i : Item) (c n : ℕ) (sent : ℕ → ℕ → Option ℕ) → Closes (after_put numbers i c n sent)
put_closed numbers (item.Frame sasl own body payload) c n sent d e = ends_closed (closes body) (ended_by (item.Frame sasl own body payload) c) (put_in numbers body c own n sent (length payload) d) (put_in_closed numbers body c own n sent (length payload) d e)
put_closed numbers _ c n sent d e = e

decided_closed : (x : Disposition) (names : ℕ → Option ℕ) (n : ℕ) → Closes (decided x names n)
decided_closed x names n d e = rw e e

disposed_closed : (r : Role) (x : Disposition) (c : ℕ) (v : Option PeerChannel) (names : ℕ → Option ℕ) (n : ℕ) → Closes (disposed r x c v names n)
disposed_closed Receiver x c v names n d e = either (is_on d.link c v) (decided x names n d) d (decided_closed x names n d e) e
disposed_closed Sender x c v names n d e = either (is_settled_at x c v (source d)) (untold d) d e e

given_closed : (acts : List Act) → Closes (given acts)
given_closed acts d e = by_outcome d.outcome e
  where
    by_outcome : (o : Option DeliveryState) → (is_none o && not (d.presettled || d.suspended)) ≡ false
        → (is_none (outcome_or o (outcome_named acts d.name)) && not (d.presettled || d.suspended)) ≡ false
    by_outcome (Some s) e = refl
    by_outcome None e = and_same (is_none (outcome_named acts d.name)) (not (d.presettled || d.suspended)) e

heard_in_closed : (body : Perf) (c : ℕ) (v : Option PeerChannel) (names : ℕ → ℕ → Option ℕ) (acts : List Act) (n : ℕ) → Closes (heard_in body c v names acts n)
heard_in_closed (perf.Disposition x) c v names acts n d e = disposed_closed x.role x c v (names d.link.channel) n d e
heard_in_closed (perf.Attach x) c v names acts n d e = given_closed acts d e
heard_in_closed _ c v names acts n d e = e

heard_closed : (i : Item) (c : ℕ) (known : ℕ → Option PeerChannel) (names : ℕ → ℕ → Option ℕ) (acts : List Act) (n : ℕ) → Closes (heard i c known names acts n)
heard_closed (item.Frame sasl channel body payload) c known names acts n d e =
    either sasl d (heard_in body c (known channel) names acts n d) e (heard_in_closed body c (known channel) names acts n d e)
heard_closed _ c known names acts n d e = e

event_closed : (x : Event) (known : ℕ → ℕ → Option PeerChannel) (names : ℕ → ℕ → ℕ → Option ℕ) (acts : List Act) (n : ℕ) → Closes (after_event x known names acts n)
event_closed (event.Item c i) known names acts n d e = heard_closed i c.0 (known c.0) (names c.0) acts n d e
event_closed (event.Down c) known names acts n d e = ends_closed false (lost_with c.0) d e
event_closed _ known names acts n d e = e

pub stays_closed : (e : Entry) (t : Trace) (n : ℕ) → n ≤ bindings t → is_open (delivery t n) ≡ false → is_open (delivery (e ∷ t) n) ≡ false
stays_closed (Did s) t n there closed = closed_after (after_event s.event (channels_found t) (named t) (acts_found t) n) (event_closed s.event (channels_found t) (named t) (acts_found t) n) (delivery t n) closed
stays_closed (Out c i) t n there closed = closed_after (after_put (number_named t) i c n (sending t c)) (put_closed (number_named t) i c n (sending t c)) (delivery t n) closed
stays_closed (Took c k) t n there closed = closed
stays_closed (Began g) t n there closed = refl
stays_closed (Booked acts full) t n there closed = closed
stays_closed (Routed passage) t n there closed = closed
stays_closed (Bound b) t n there closed = by_kind (holds_standing b.kind)
  where
    uncalled : (v : Option Delivery) → is_open v ≡ false → is_open (unless_called (name_in t b) v) ≡ false
    uncalled None e = e
    uncalled (Some d) e = by_test (same_name d.name (name_in t b))
      where
        by_test : (q : Bool) → is_open (if q then None else Some d) ≡ false
        by_test true = refl
        by_test false = e

    fresh : (new : Bool) → (bindings t + 1 == n) ≡ new → is_open (if new then Some (bound (name_in t b) (rank_in t b) b) else unless_called (name_in t b) (delivery t n)) ≡ false
    fresh true e = let is : bindings t + 1 ≡ n = eqb-true (bindings t + 1) n e in absurd (omega (arith, is, there))
    fresh false e = uncalled (delivery t n) closed

    held : (q : Holding) (d : Delivery) → is_undecided d ≡ false → is_undecided (held_by q d) ≡ false
    held (holding.Resumed p) d e = e
    held (holding.Unresumed a) d e = e
    held (holding.Settled a) d e = e

    rejoined : (q : Holding) (v : Option Delivery) → is_open v ≡ false → is_open (joined (name_in t b) q v) ≡ false
    rejoined q None e = e
    rejoined q (Some d) e = by_test (same_name d.name (name_in t b))
      where
        by_test : (is : Bool) → is_open (if is then unless_over (held_by q d) else Some d) ≡ false
        by_test true = closed_after (held_by q) (held q) (Some d) e
        by_test false = e

    by_kind : (j : Option Holding) → is_open (with_binding j (name_in t b) (rank_in t b) b (bindings t + 1 == n) (delivery t n)) ≡ false
    by_kind None = fresh (bindings t + 1 == n) refl
    by_kind (Some q) = rejoined q (delivery t n) closed

-- nor by a table's change, nor by the outcomes that acts give
changed_closed : (x : Change) → Closes (changed x)
changed_closed (change.Ends g closed) d e = ends_closed closed (is_gone g) d e
changed_closed (change.Untold c o first last) d e = either (comes_with_id (source d) c o first last) (untold d) d e e
changed_closed (change.Told c o first last) d e = either (comes_with_id (source d) c o first last) (unsettled d) d e e
changed_closed (change.Decided c o first last made) d e = either (is_decided_by d c o first last) (record d { outcome = Some made }) d refl e

pub closed_if : (b : Bool) (x : Change) (v : Option Delivery) → is_open v ≡ false → is_open (if b then after_change x v else v) ≡ false
closed_if true x v e = closed_after (changed x) (changed_closed x) v e
closed_if false x v e = e

pub acts_closed : (acts : List Act) (v : Option Delivery) → is_open v ≡ false → is_open (after_acts acts v) ≡ false
acts_closed acts v e = closed_after (given acts) (given_closed acts) v e
