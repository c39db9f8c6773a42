-- A change applied to a delivery twice has the effect of once.
use Rattle.std.proofs.Common.{◌≡◌, ℕ, Bool, true, false, refl, sym, ap, ◌∙◌, List, ◌∷◌, Option, Some, None}
use Rattle.std.specs.Prelude.{◌||◌, ◌&&◌, ◌==◌, not, if◌then◌else◌}
use Rattle.amqp_session.specs.Ranges.{has}
use Rattle.router_trace.specs.declared.handle.Attachment.{Attachment}
use Rattle.amqp_model.specs.declared.state.DeliveryState.{DeliveryState}
use Rattle.router_trace.proofs.Numbers.{equal_back}
use Rattle.router_trace.specs.Deliveries.{Delivery, source, sender, unless_over, is_over, after_ends, after_origin, is_gone_with, ended, forsaken}
use Rattle.state_deliveries.specs.declared.change.Change.{Change}
use Rattle.state_deliveries.specs.declared.change.Change.TheVariants as change
use Rattle.state_deliveries.specs.Stepping.{is_gone, comes_with_id, is_decided_by, changed, after_change}

-- a change that a delivery went through changes it no further
settled_origin : (gone : Attachment → Bool) (d : Delivery) → after_origin gone (after_origin gone d) ≡ after_origin gone d
settled_origin gone d = by_test (is_gone_with gone (sender d)) refl
  where
    by_test : (b : Bool) → is_gone_with gone (sender d) ≡ b → after_origin gone (after_origin gone d) ≡ after_origin gone d
    by_test true e = rw e refl
    by_test false e = rw (e, e) refl

ended_twice : (closed : Bool) (d : Delivery) → ended closed (ended closed d) ≡ ended closed d
ended_twice closed d = by_tests d.suspended (d.lasting && not closed) d.outcome refl refl refl
  where
    by_tests : (s l : Bool) (o : Option DeliveryState) → d.suspended ≡ s → (d.lasting && not closed) ≡ l → d.outcome ≡ o → ended closed (ended closed d) ≡ ended closed d
    by_tests true l o e f g = rw e refl
    by_tests false true None e f g = rw (e, f, g) refl
    by_tests false true (Some s) e f g = rw (e, f, g, f) refl
    by_tests false false None e f g = rw (e, f, f, g) refl
    by_tests false false (Some s) e f g = rw (e, f, f, g) refl

-- the end of its own link leaves a delivery's link and its producer's delivery
same_place : (closed : Bool) (d : Delivery) → ((ended closed d).link ≡ d.link) × (sender (ended closed d) ≡ sender d)
same_place closed d = by_tests d.suspended (d.lasting && not closed) refl refl
  where
    by_tests : (s l : Bool) → d.suspended ≡ s → (d.lasting && not closed) ≡ l → ((ended closed d).link ≡ d.link) × (sender (ended closed d) ≡ sender d)
    by_tests true l e f = rw e (refl, refl)
    by_tests false true e f = rw (e, f) (refl, refl)
    by_tests false false e f = rw (e, f) (refl, refl)

-- ... and what an ended delivery without an origin becomes
ended_forsaken : (closed : Bool) (d : Delivery) → ended closed (forsaken d) ≡ forsaken (ended closed d)
ended_forsaken closed d = by_tests d.suspended (d.lasting && not closed) refl refl
  where
    by_tests : (s l : Bool) → d.suspended ≡ s → (d.lasting && not closed) ≡ l → ended closed (forsaken d) ≡ forsaken (ended closed d)
    by_tests true l e f = rw e refl
    by_tests false true e f = rw (e, f) refl
    by_tests false false e f = rw (e, f) refl

ends_on : (closed : Bool) (gone : Attachment → Bool) (d : Delivery) → gone d.link ≡ true → after_ends closed gone d ≡ after_origin gone (ended closed d)
ends_on closed gone d e = ap (λ b. after_origin gone (if b then ended closed d else d)) e

ends_off : (closed : Bool) (gone : Attachment → Bool) (d : Delivery) → gone d.link ≡ false → after_ends closed gone d ≡ after_origin gone d
ends_off closed gone d e = ap (λ b. after_origin gone (if b then ended closed d else d)) e

ends_twice : (closed : Bool) (gone : Attachment → Bool) (d : Delivery) → after_ends closed gone (after_ends closed gone d) ≡ after_ends closed gone d
ends_twice closed gone d = by_link (gone d.link) refl
  where
    e : Delivery
    e = ended closed d

    origin_is : (b : Bool) → is_gone_with gone (sender d) ≡ b → is_gone_with gone (sender e) ≡ b
    origin_is b x = ap (is_gone_with gone) (same_place closed d).1 ∙ x

    told_or_not : (x : Delivery) (b : Bool) → is_gone_with gone (sender x) ≡ b → after_origin gone x ≡ (if b then forsaken x else x)
    told_or_not x b is = ap (λ b. if b then forsaken x else x) is

    once : (b : Bool) → is_gone_with gone (sender d) ≡ b → gone d.link ≡ true → after_ends closed gone d ≡ (if b then forsaken e else e)
    once b x l = ends_on closed gone d l ∙ told_or_not e b (origin_is b x)

    link_is : gone d.link ≡ true → gone e.link ≡ true
    link_is l = ap gone (same_place closed d).0 ∙ l

    again : (b : Bool) → is_gone_with gone (sender d) ≡ b → gone d.link ≡ true → after_ends closed gone (if b then forsaken e else e) ≡ (if b then forsaken e else e)
    again true x l = ends_on closed gone (forsaken e) (link_is l) ∙ ap (after_origin gone) (ended_forsaken closed e ∙ ap forsaken (ended_twice closed d)) ∙ told_or_not (forsaken e) false refl
    again false x l = ends_on closed gone e (link_is l) ∙ ap (after_origin gone) (ended_twice closed d) ∙ told_or_not e false (origin_is false x)

    by_link : (b : Bool) → gone d.link ≡ b → after_ends closed gone (after_ends closed gone d) ≡ after_ends closed gone d
    by_link true l =
        let first = once (is_gone_with gone (sender d)) refl l in
        ap (after_ends closed gone) first ∙ again (is_gone_with gone (sender d)) refl l ∙ sym first
    by_link false l = by_origin (is_gone_with gone (sender d)) refl
      where
        first : (b : Bool) → is_gone_with gone (sender d) ≡ b → after_ends closed gone d ≡ (if b then forsaken d else d)
        first b x = ends_off closed gone d l ∙ told_or_not d b x

        by_origin : (b : Bool) → is_gone_with gone (sender d) ≡ b → after_ends closed gone (after_ends closed gone d) ≡ after_ends closed gone d
        by_origin true x = ap (after_ends closed gone) (first true x) ∙ ends_off closed gone (forsaken d) l ∙ told_or_not (forsaken d) false refl ∙ sym (first true x)
        by_origin false x = ap (after_ends closed gone) (first false x)

changed_twice : (x : Change) (d : Delivery) → changed x (changed x d) ≡ changed x d
changed_twice (change.Ends g closed) d = ends_twice closed (is_gone g) d
changed_twice (change.Untold c o first last) d = by_test (comes_with_id (source d) c o first last) refl
  where
    by_test : (b : Bool) → comes_with_id (source d) c o first last ≡ b → changed (change.Untold c o first last) (changed (change.Untold c o first last) d) ≡ changed (change.Untold c o first last) d
    by_test true e = rw e refl
    by_test false e = rw (e, e) refl
changed_twice (change.Told c o first last) d = by_test (comes_with_id (source d) c o first last) refl
  where
    by_test : (b : Bool) → comes_with_id (source d) c o first last ≡ b → changed (change.Told c o first last) (changed (change.Told c o first last) d) ≡ changed (change.Told c o first last) d
    by_test true e = rw (e, e) refl
    by_test false e = rw (e, e) refl
changed_twice (change.Decided c o first last made) d = by_test (is_decided_by d c o first last) refl
  where
    undecided_no_more : changed (change.Decided c o first last made) (record d { outcome = Some made }) ≡ record d { outcome = Some made }
    undecided_no_more = refl

    by_test : (b : Bool) → is_decided_by d c o first last ≡ b → changed (change.Decided c o first last made) (changed (change.Decided c o first last made) d) ≡ changed (change.Decided c o first last made) d
    by_test true e = rw e undecided_no_more
    by_test false e = rw (e, e) refl

kept_again : (x : Change) (d : Delivery) → changed x d ≡ d → after_change x (unless_over d) ≡ unless_over d
kept_again x d same = by_test (is_over d) refl
  where
    by_test : (b : Bool) → is_over d ≡ b → after_change x (unless_over d) ≡ unless_over d
    by_test true e = rw e refl
    by_test false e = rw (e, same, e) refl

pub twice : (x : Change) (v : Option Delivery) → after_change x (after_change x v) ≡ after_change x v
twice x None = refl
twice x (Some d) = kept_again x (changed x d) (changed_twice x d)

-- one more number
abbrev pub finish : Change → Bool → Option Delivery → Option Delivery
finish x b v = if b then after_change x v else v

pub one_more : (x : Change) (n m : ℕ) (more : List ℕ) (before after : Option Delivery) → after ≡ (if m == n then after_change x before else before)
    → finish x (has n more) after ≡ finish x (has n (m ∷ more)) before
one_more x n m more before after is = rw (is, equal_back n m) (by_tests (n == m) (has n more))
  where
    by_tests : (b c : Bool) → finish x c (if b then after_change x before else before) ≡ finish x (b || c) before
    by_tests true true = twice x before
    by_tests true false = refl
    by_tests false c = refl
