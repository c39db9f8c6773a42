-- A delivery that is undecided after an entry was so before it, and the entry doesn't end its link; one whose producer isn't done with it after an entry
-- came from that producer before, and the entry doesn't end the producer's link.
use Rattle.std.proofs.Common.{◌≡◌, ◌∙◌, sym, ap, refl, subst, ℕ, Bool, true, false, not, ◌&&◌, ◌||◌, List, ◌∷◌, length, arith}
use Rattle.std.specs.Prelude.{◌==◌, Option, Some, None, is_none, if◌then◌else◌}
use Rattle.std.proofs.lemmas.Bool.Decides.{nat_tests}
use Rattle.amqp_model.specs.declared.perf.Disposition.{Disposition}
use Rattle.amqp_model.specs.declared.perf.Perf.{Perf}
use Rattle.amqp_model.specs.declared.perf.Perf.TheVariants as perf
use Rattle.amqp_model.specs.declared.perf.Role.{Role}
use Rattle.amqp_model.specs.declared.perf.Role.TheVariants.{Sender, Receiver}
use Rattle.amqp_model.specs.declared.perf.Transfer.{Transfer}
use Rattle.amqp_model.specs.declared.state.DeliveryState.{DeliveryState}
use Rattle.amqp_model.specs.declared.state.DeliveryState.TheVariants as state
use Rattle.amqp_model.specs.declared.item.Item.{Item}
use Rattle.amqp_model.specs.declared.item.Item.TheVariants as item
use Rattle.book_model.specs.declared.act.Act.{Act}
use Rattle.router_trace.specs.declared.binding.DeliveryName.{DeliveryName}
use Rattle.router_trace.specs.declared.binding.Origin.{Origin}
use Rattle.router_trace.specs.declared.channel.PeerChannel.{PeerChannel}
use Rattle.router_trace.specs.declared.event.Event.{Event}
use Rattle.router_trace.specs.declared.event.Event.TheVariants as event
use Rattle.router_trace.specs.declared.handle.Attachment.{Attachment}
use Rattle.router_trace.specs.Trace.{Entry, Did, Out, Step}
use Rattle.router_trace.specs.Links.{is_lost}
use Rattle.router_trace.specs.Deliveries.{Delivery, number_named, delivery, sending, named, source, untold, unsettled, failed, is_undecided, is_gone_with, after_origin, after_ends, ended, decided_at_end, suspended_at_end, closes, ended_by, put_in, after_put, after_frame, after_event, told, is_meant, origin_id, is_number, carried, tag_in, decided, is_on, is_settled_at, disposed, outcome_or, outcome_named, given, heard_in, heard, lost_with, channels_found, acts_found, sender, forsaken, either_origin}
use Rattle.theorems.proofs.Followed.{Left, Frames, item_left, event_left, Follows, item_follows, event_follows}
use Rattle.theorems.proofs.Bindings.{of_what}
use Rattle.theorems.proofs.Tests.{none_not_some}

-- the producer

abbrev pub Comes : Delivery → Delivery → Type 0
Comes d e = (p : Origin) → source e ≡ Some p → source d ≡ Some p

pub comes_left : Left Comes
comes_left = record {
  same = λ d p is. is;
  next = λ d e f first rest p is. first p (rest p is);
  untold = λ d p is. absurd (none_not_some is);
  forsaken = λ d p is. absurd (none_not_some is);
  unsettled = λ d p is. is;
  ended = λ d p is. is;
  suspended = λ d p is. is;
  decided = λ d s p is. is;
}

pub comes_frames : Frames Comes
comes_frames x count d p is = is

-- links that end

either_closed : (b : Bool) (x y : Delivery) → is_undecided x ≡ false → is_undecided y ≡ false → is_undecided (if b then x else y) ≡ false
either_closed true x y e f = e
either_closed false x y e f = f

suspended_closed : (a p s : Bool) → s ≡ true → (a && not (p || s)) ≡ false
suspended_closed true true s e = refl
suspended_closed true false true e = refl
suspended_closed true false false e = absurd cc
suspended_closed false p s e = refl

ended_closed : (closed : Bool) (d : Delivery) → is_undecided (ended closed d) ≡ false
ended_closed closed d = by_suspended d.suspended refl
  where
    decided : (o : Option DeliveryState) → (is_none (if is_none o then Some failed else o) && not (d.presettled || d.suspended)) ≡ false
    decided None = refl
    decided (Some s) = refl

    suspends : (o : Option DeliveryState) → (is_none o && not (d.presettled || is_none o)) ≡ false
    suspends None = suspended_closed true d.presettled true refl
    suspends (Some s) = refl

    by_suspended : (b : Bool) → d.suspended ≡ b → is_undecided (if b then d else (if d.lasting && not closed then suspended_at_end d else decided_at_end d)) ≡ false
    by_suspended true e = suspended_closed (is_none d.outcome) d.presettled d.suspended e
    by_suspended false e = either_closed (d.lasting && not closed) (suspended_at_end d) (decided_at_end d) (suspends d.outcome) (decided d.outcome)

clash : false ≡ true → ⊥
clash e = cc

pub ends_spare : (closed : Bool) (gone : Attachment → Bool) (d : Delivery) → is_undecided (after_ends closed gone d) ≡ true → gone d.link ≡ false
ends_spare closed gone d h = by (gone d.link) refl h
  where
    undone : (b : Bool) (e : Delivery) → is_undecided (if b then forsaken e else e) ≡ true → is_undecided e ≡ true
    undone true e h = h
    undone false e h = h

    by : (b : Bool) → gone d.link ≡ b → is_undecided (after_origin gone (if b then ended closed d else d)) ≡ true → b ≡ false
    by false is h = refl
    by true is h = absurd (clash (sym (ended_closed closed d) ∙ undone (is_gone_with gone (sender (ended closed d))) (ended closed d) h))

origin_keeps : (gone : Attachment → Bool) (e : Delivery) (p : Origin) → source (after_origin gone e) ≡ Some p → gone p.link ≡ false
origin_keeps gone e p h = by (is_gone_with gone (sender e)) refl h
  where
    by : (b : Bool) → is_gone_with gone (sender e) ≡ b → source (if b then forsaken e else e) ≡ Some p → gone p.link ≡ false
    by true is h = absurd (none_not_some h)
    by false is h = sym (ap (λ (o : Option Origin). is_gone_with gone (either_origin (either_origin o e.owned) e.early)) h) ∙ is

pub ends_keep : (closed : Bool) (gone : Attachment → Bool) (d : Delivery) (p : Origin) → source (after_ends closed gone d) ≡ Some p → gone p.link ≡ false
ends_keep closed gone d p h = origin_keeps gone (if gone d.link then ended closed d else d) p h

-- items that are put

never_ends : (b : Bool) → (b && false) ≡ false
never_ends true = refl
never_ends false = refl

put_link : (numbers : DeliveryName → Option ℕ) (body : Perf) (c own n : ℕ) (sent : ℕ → ℕ → Option ℕ) (count : ℕ) (d : Delivery) → (put_in numbers body c own n sent count d).link ≡ d.link
put_link numbers (perf.Transfer x) c own n sent count d = by (is_number (carried numbers (tag_in x) (sent own x.handle)) n)
  where
    by : (b : Bool) → (if b then after_frame x count d else d).link ≡ d.link
    by true = refl
    by false = refl
put_link numbers (perf.Disposition x) c own n sent count d = by x.role (is_meant x (origin_id (source d) c own)) x.settled
  where
    either : (b s : Bool) → (if b then (if s then untold d else unsettled d) else d).link ≡ d.link
    either true true = refl
    either true false = refl
    either false s = refl

    by : (r : Role) (b s : Bool) → (told r x c own d).link ≡ d.link
    by Receiver b s = either (is_meant x (origin_id (source d) c own)) x.settled
    by Sender b s = refl
put_link numbers _ c own n sent count d = refl

pub put_spares : (numbers : DeliveryName → Option ℕ) (i : Item) (c n : ℕ) (sent : ℕ → ℕ → Option ℕ) (d : Delivery) → is_undecided (after_put numbers i c n sent d) ≡ true
    → ended_by i c d.link ≡ false
put_spares numbers (item.Frame sasl own body payload) c n sent d h =
    ap (ended_by (item.Frame sasl own body payload) c) (sym (put_link numbers body c own n sent (length payload) d))
    ∙ ends_spare (closes body) (ended_by (item.Frame sasl own body payload) c) (put_in numbers body c own n sent (length payload) d) h
put_spares numbers _ c n sent d h = never_ends (d.link.conn.0 == c)

pub put_keeps : (numbers : DeliveryName → Option ℕ) (i : Item) (c n : ℕ) (sent : ℕ → ℕ → Option ℕ) (d : Delivery) (p : Origin) → source (after_put numbers i c n sent d) ≡ Some p
    → ended_by i c p.link ≡ false
put_keeps numbers (item.Frame sasl own body payload) c n sent d p h =
    ends_keep (closes body) (ended_by (item.Frame sasl own body payload) c) (put_in numbers body c own n sent (length payload) d) p h
put_keeps numbers _ c n sent d p h = never_ends (p.link.conn.0 == c)

-- none becomes undecided

abbrev Closes : (Delivery → Delivery) → Type 0
Closes f = (d : Delivery) → is_undecided d ≡ false → is_undecided (f d) ≡ false

ends_closed : (closed : Bool) (gone : Attachment → Bool) → Closes (after_ends closed gone)
ends_closed closed gone d e =
    let on : is_undecided (if gone d.link then ended closed d else d) ≡ false = either_closed (gone d.link) (ended closed d) d (ended_closed closed d) e in
    either_closed (is_gone_with gone (sender (if gone d.link then ended closed d else d))) (forsaken (if gone d.link then ended closed d else d)) (if gone d.link then ended closed d else d) on on

frame_closed : (x : Transfer) (count : ℕ) → Closes (after_frame x count)
frame_closed x count d e = by (d.presettled && not x.more)
  where
    by : (b : Bool) → (is_none (if b then Some state.Accepted else d.outcome) && not (d.presettled || d.suspended)) ≡ false
    by true = refl
    by false = e

told_closed : (r : Role) (x : Disposition) (c o : ℕ) → Closes (told r x c o)
told_closed Receiver x c o d e =
    either_closed (is_meant x (origin_id (source d) c o)) (if x.settled then untold d else unsettled d) d (either_closed x.settled (untold d) (unsettled d) e e) e
told_closed Sender x c o d e = e

put_in_closed : (numbers : DeliveryName → Option ℕ) (body : Perf) (c own n : ℕ) (sent : ℕ → ℕ → Option ℕ) (count : ℕ) → Closes (put_in numbers body c own n sent count)
put_in_closed numbers (perf.Transfer x) c own n sent count d e =
    either_closed (is_number (carried numbers (tag_in x) (sent own x.handle)) n) (after_frame x count d) d (frame_closed x count d e) e
put_in_closed numbers (perf.Disposition x) c own n sent count d e = told_closed x.role x c own d e
put_in_closed numbers _ c own n sent count d e = e

put_closed : (numbers : DeliveryName → Option ℕ) (i : Item) (c n : ℕ) (sent : ℕ → ℕ → Option ℕ) → Closes (after_put numbers i c n sent)
put_closed numbers (item.Frame sasl own body payload) c n sent d e =
    ends_closed (closes body) (ended_by (item.Frame sasl own body payload) c) (put_in numbers body c own n sent (length payload) d) (put_in_closed numbers body c own n sent (length payload) d e)
put_closed numbers _ c n sent d e = e

decided_closed : (x : Disposition) (names : ℕ → Option ℕ) (n : ℕ) → Closes (decided x names n)
decided_closed x names n d e = rw e e

disposed_closed : (r : Role) (x : Disposition) (c : ℕ) (v : Option PeerChannel) (names : ℕ → Option ℕ) (n : ℕ) → Closes (disposed r x c v names n)
disposed_closed Receiver x c v names n d e = either_closed (is_on d.link c v) (decided x names n d) d (decided_closed x names n d e) e
disposed_closed Sender x c v names n d e = either_closed (is_settled_at x c v (source d)) (untold d) d e e

given_closed : (acts : List Act) → Closes (given acts)
given_closed acts d e = by d.outcome (outcome_named acts d.name) e
  where
    by : (o v : Option DeliveryState) → (is_none o && not (d.presettled || d.suspended)) ≡ false → (is_none (outcome_or o v) && not (d.presettled || d.suspended)) ≡ false
    by None None e = e
    by None (Some s) e = refl
    by (Some s) v e = refl

heard_in_closed : (body : Perf) (c : ℕ) (v : Option PeerChannel) (names : ℕ → ℕ → Option ℕ) (acts : List Act) (n : ℕ) → Closes (heard_in body c v names acts n)
heard_in_closed (perf.Disposition x) c v names acts n d e = disposed_closed x.role x c v (names d.link.channel) n d e
heard_in_closed (perf.Attach x) c v names acts n d e = given_closed acts d e
heard_in_closed _ c v names acts n d e = e

heard_closed : (i : Item) (c : ℕ) (known : ℕ → Option PeerChannel) (names : ℕ → ℕ → Option ℕ) (acts : List Act) (n : ℕ) → Closes (heard i c known names acts n)
heard_closed (item.Frame sasl channel body payload) c known names acts n d e =
    either_closed sasl d (heard_in body c (known channel) names acts n d) e (heard_in_closed body c (known channel) names acts n d e)
heard_closed _ c known names acts n d e = e

event_closed : (x : Event) (known : ℕ → ℕ → Option PeerChannel) (names : ℕ → ℕ → ℕ → Option ℕ) (acts : List Act) (n : ℕ) → Closes (after_event x known names acts n)
event_closed (event.Item c i) known names acts n d e = heard_closed i c.0 (known c.0) (names c.0) acts n d e
event_closed (event.Down c) known names acts n d e = ends_closed false (lost_with c.0) d e
event_closed _ known names acts n d e = e

-- what a delivery was before an entry

pub record Was (gone : Attachment → Bool) (t : List Entry) (n : ℕ) (e : Delivery) : Type 0 where
  pub before : Delivery
  pub there : delivery t n ≡ Some before
  pub follows : Follows None before e
  pub undecided : is_undecided e ≡ true → is_undecided before ≡ true
  pub comes : Comes before e
  -- its link is none of those that end, nor is the producer's
  pub spares : is_undecided e ≡ true → gone before.link ≡ false
  pub keeps : (p : Origin) → source e ≡ Some p → gone p.link ≡ false

abbrev pub lost_by : Event → Attachment → Bool
lost_by x a = is_lost x a.conn.0

same_test : (a b : ℕ) → (a == b) ≡ false → (b == a) ≡ false
same_test a b h = grind (arith, nat_tests)

event_spares : (x : Event) (known : ℕ → ℕ → Option PeerChannel) (names : ℕ → ℕ → ℕ → Option ℕ) (acts : List Act) (n : ℕ) (d : Delivery) → is_undecided (after_event x known names acts n d) ≡ true
    → lost_by x d.link ≡ false
event_spares (event.Down c) known names acts n d h = same_test d.link.conn.0 c.0 (ends_spare false (lost_with c.0) d h)
event_spares _ known names acts n d h = refl

event_keeps : (x : Event) (known : ℕ → ℕ → Option PeerChannel) (names : ℕ → ℕ → ℕ → Option ℕ) (acts : List Act) (n : ℕ) (d : Delivery) (p : Origin)
    → source (after_event x known names acts n d) ≡ Some p → lost_by x p.link ≡ false
event_keeps (event.Down c) known names acts n d p h = same_test p.link.conn.0 c.0 (ends_keep false (lost_with c.0) d p h)
event_keeps _ known names acts n d p h = refl

open_before : (f : Delivery → Delivery) → Closes f → (d e : Delivery) → e ≡ f d → is_undecided e ≡ true → is_undecided d ≡ true
open_before f closes d e is open_now = by (is_undecided d) refl
  where
    by : (b : Bool) → is_undecided d ≡ b → b ≡ true
    by true was = refl
    by false was = absurd (clash (sym (closes d was) ∙ sym (ap is_undecided is) ∙ open_now))

pub was_did : (s : Step) (t : List Entry) (n : ℕ) (e : Delivery) → delivery (Did s ∷ t) n ≡ Some e → Was (lost_by s.event) t n e
was_did s t n e now =
    let was = of_what (after_event s.event (channels_found t) (named t) (acts_found t) n) (delivery t n) e now
    in record {
      before = was.0;
      there = was.1;
      follows = subst (λ (f : Delivery). Follows None was.0 f) (sym was.2) (event_follows s.event (channels_found t) (named t) (acts_found t) n was.0);
      undecided = open_before (after_event s.event (channels_found t) (named t) (acts_found t) n) (event_closed s.event (channels_found t) (named t) (acts_found t) n) was.0 e was.2;
      comes = subst (λ (f : Delivery). Comes was.0 f) (sym was.2) (event_left Comes comes_left s.event (channels_found t) (named t) (acts_found t) n was.0);
      spares = λ h. event_spares s.event (channels_found t) (named t) (acts_found t) n was.0 (sym (ap is_undecided was.2) ∙ h);
      keeps = λ p h. event_keeps s.event (channels_found t) (named t) (acts_found t) n was.0 p (sym (ap source was.2) ∙ h);
    }

pub was_out : (c : ℕ) (i : Item) (t : List Entry) (n : ℕ) (e : Delivery) → delivery (Out c i ∷ t) n ≡ Some e → Was (ended_by i c) t n e
was_out c i t n e now =
    let was = of_what (after_put (number_named t) i c n (sending t c)) (delivery t n) e now
    in record {
      before = was.0;
      there = was.1;
      follows = subst (λ (f : Delivery). Follows None was.0 f) (sym was.2) (item_follows (number_named t) i c n (sending t c) was.0);
      undecided = open_before (after_put (number_named t) i c n (sending t c)) (put_closed (number_named t) i c n (sending t c)) was.0 e was.2;
      comes = subst (λ (f : Delivery). Comes was.0 f) (sym was.2) (item_left Comes comes_left comes_frames (number_named t) i c n (sending t c) was.0);
      spares = λ h. put_spares (number_named t) i c n (sending t c) was.0 (sym (ap is_undecided was.2) ∙ h);
      keeps = λ p h. put_keeps (number_named t) i c n (sending t c) was.0 p (sym (ap source was.2) ∙ h);
    }
