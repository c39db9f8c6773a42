-- A delivery is of the message that was bound under its number.
use Rattle.std.proofs.Common.{◌≡◌, ◌∙◌, sym, ap, refl, subst, inl, inr, ℕ, ◌+◌, ◌≤◌, Bool, true, false, List, [], ◌∷◌, ◌++◌, append-nil, arith}
use Rattle.std.specs.Prelude.{◌==◌, ◌&&◌, Option, Some, None, is_none, option_and_then, if◌then◌else◌}
use Rattle.std.proofs.lemmas.Bool.{eqb-true, eq-eqb}
use Rattle.router_trace.specs.declared.binding.Binding.{Binding}
use Rattle.router_trace.specs.declared.binding.BindingKind.{BindingKind}
use Rattle.router_trace.specs.declared.binding.BindingKind.TheVariants as kind
use Rattle.router_trace.specs.declared.binding.DeliveryName.{DeliveryName}
use Rattle.router_trace.specs.declared.binding.Holding.{Holding}
use Rattle.router_trace.specs.declared.binding.Origin.{Origin}
use Rattle.router_trace.specs.declared.binding.Rank.{Rank}
use Rattle.router_trace.specs.Trace.{Entry, Did, Out, Took, Bound, Booked, Routed, Began, is_opening, IsOneRun}
use Rattle.router_trace.specs.Deliveries.{Delivery, has_row, bound, joined, holds_standing, presettles, either_origin, origin_of, with_binding, unless_called, bindings, name_in, number_named, delivery, sending, named, is_over, unless_over, after_put, after_event, channels_found, acts_found, rank_in}
use Rattle.theorems.specs.Each.{EachBound}
use Rattle.theorems.specs.OneConsumer.{IsOrNone, IsOf, joined_in, WhileThere, IsOfMessage}
use Rattle.state_connections.proofs.Lists.{by_test}
use Rattle.state_deliveries.proofs.Called.{uncalled}
use Rattle.theorems.proofs.Tests.{some_same, none_not_some}
use Rattle.theorems.proofs.Followed.{Follows, AllFollow, same, origin_then, joined_both, all_bound, item_follows, event_follows, entry_follows, later_follows}

bound_is : (name : DeliveryName) (rank : Rank) (b : Binding) → IsOf [] b (bound name rank b)
bound_is name rank b = record { consumer = refl; payload = refl; format = refl; origin = inl refl; presettled = refl; lasting = refl }

pub follows_is : (first later : List Entry) (b : Binding) (d e : Delivery) → IsOf first b d → Follows (joined_in later d.name) d e → IsOf (later ++ first) b e
follows_is first later b d e is follows = record {
  consumer = follows.link ∙ is.consumer;
  payload = follows.payload ∙ is.payload;
  format = follows.format ∙ is.format;
  origin = subst (λ (o : Option Origin). IsOrNone e.origin (either_origin o (origin_of b.kind))) (sym its_joins)
      (origin_then (origin_of b.kind) d.origin e.origin (joined_in first d.name) (joined_in later d.name) is.origin follows.origin);
  presettled = follows.presettled ∙ is.presettled;
  lasting = follows.lasting ∙ is.lasting ∙ ap (λ (name : DeliveryName). has_row name && b.lasting) (sym follows.name);
}
  where
    its_joins : joined_in (later ++ first) e.name ≡ either_origin (joined_in later d.name) (joined_in first d.name)
    its_joins = ap (joined_in (later ++ first)) follows.name ∙ joined_both later first d.name

while_is : (later : List Entry) (b : Binding) (d : Delivery) (v : Option Delivery) → IsOf [] b d → WhileThere (Follows (joined_in later d.name) d) v → WhileThere (IsOf later b) v
while_is later b d None is follows = tt
while_is later b d (Some e) is follows = subst (λ (x : List Entry). IsOf x b e) (append-nil later) (follows_is [] later b d e is follows)

-- what a binding with a number makes
pub bound_now : (b : Binding) (t : List Entry) → holds_standing b.kind ≡ None → (delivery (Bound b ∷ t) (bindings t + 1) ≡ Some (bound (name_in t b) (rank_in t b) b)) × (bindings (Bound b ∷ t) ≡ bindings t + 1)
bound_now b t none = (
  ap (λ (j : Option Holding). with_binding j (name_in t b) (rank_in t b) b (bindings t + 1 == bindings t + 1) (delivery t (bindings t + 1))) none
      ∙ ap (λ (new : Bool). if new then Some (bound (name_in t b) (rank_in t b) b) else unless_called (name_in t b) (delivery t (bindings t + 1))) (eq-eqb (bindings t + 1) (bindings t + 1) refl),
  ap (λ (j : Option Holding). if is_none j then bindings t + 1 else bindings t) none,
)

pub stays_with_consumer : (b : Binding) (t later : List Entry) → IsOneRun later → holds_standing b.kind ≡ None → WhileThere (IsOf later b) (delivery (later ++ Bound b ∷ t) (bindings t + 1))
stays_with_consumer b t later one numbered =
    let now = bound_now b t numbered
    in while_is later b (bound (name_in t b) (rank_in t b) b) (delivery (later ++ Bound b ∷ t) (bindings t + 1)) (bound_is (name_in t b) (rank_in t b) b)
    (subst (λ (v : Option Delivery). AllFollow later v (delivery (later ++ Bound b ∷ t) (bindings t + 1))) now.0
    (later_follows later (Bound b ∷ t) (bindings t + 1) one (subst (λ (k : ℕ). bindings t + 1 ≤ k) (sym now.1) (least (bindings t + 1)))))
  where
    least : (n : ℕ) → n ≤ n
    least n = omega arith

pub never_comes_back : (n : ℕ) (t later : List Entry) → IsOneRun later → n ≤ bindings t → delivery t n ≡ None → delivery (later ++ t) n ≡ None
never_comes_back n t later one given over = subst (λ (v : Option Delivery). AllFollow later v (delivery (later ++ t) n)) over (later_follows later t n one given)

-- the delivery that it was before

pub of_what : (f : Delivery → Delivery) (v : Option Delivery) (e : Delivery) → option_and_then (λ d. unless_over (f d)) v ≡ Some e
    → (d : Delivery) × (v ≡ Some d) × (e ≡ f d)
of_what f None e h = absurd cc
of_what f (Some d) e h = (d, refl, by (is_over (f d)) h)
  where
    by : (b : Bool) → (if b then None else Some (f d)) ≡ Some e → e ≡ f d
    by true h = absurd cc
    by false h = sym (some_same h)

later_message : (x : Entry) (t : List Entry) (n : ℕ) (d e : Delivery) → is_opening x ≡ false → IsOfMessage t n d → Follows (joined_in (x ∷ []) d.name) d e → IsOfMessage (x ∷ t) n e
later_message x t n d e one was follows = record {
  later = x ∷ was.later;
  binding = was.binding;
  before = was.before;
  trace = ap (λ (u : List Entry). x ∷ u) was.trace;
  one_run = (one, was.one_run);
  numbered = was.numbered;
  number = was.number;
  name = follows.name ∙ was.name;
  is = follows_is was.later (x ∷ []) was.binding d e was.is follows;
}

there_before : (u : List Entry) (n : ℕ) (d : Delivery) → IsOfMessage u n d → n ≤ bindings u
there_before u n d is =
    subst (λ (t : List Entry). n ≤ bindings t) (sym is.trace)
    (all_bound is.later (Bound is.binding ∷ is.before) n is.one_run (at_least (bound_now is.binding is.before is.numbered).1 is.number))
  where
    at_least : {j k : ℕ} → k ≡ j → j ≡ n → n ≤ k
    at_least e f = omega (arith, e, f)

-- after a binding
bound_message : (b : Binding) (t : List Entry) (n : ℕ) (d : Delivery) → delivery (Bound b ∷ t) n ≡ Some d → ((e : Delivery) → delivery t n ≡ Some e → IsOfMessage t n e) → IsOfMessage (Bound b ∷ t) n d
bound_message b t n d h was = by (holds_standing b.kind) refl h
  where
    newest : DeliveryName
    newest = name_in t b

    -- one that was there before
    was_here : (e : Delivery) → delivery t n ≡ Some e → IsOfMessage (Bound b ∷ t) n d
    was_here e there =
        let follows : AllFollow (Bound b ∷ []) (Some e) (Some d)
        = subst (λ (v : Option Delivery). AllFollow (Bound b ∷ []) v (Some d)) there
        (subst (λ (w : Option Delivery). AllFollow (Bound b ∷ []) (delivery t n) w) h (entry_follows (Bound b) t n (there_before t n e (was e there)))) in
        later_message (Bound b) t n e d refl (was e there) follows

    by_join : (q : Holding) (v : Option Delivery) → delivery t n ≡ v → joined newest q v ≡ Some d → IsOfMessage (Bound b ∷ t) n d
    by_join q None there g = absurd (none_not_some g)
    by_join q (Some x) there g = was_here x there

    by : (j : Option Holding) → holds_standing b.kind ≡ j → with_binding j newest (rank_in t b) b (bindings t + 1 == n) (delivery t n) ≡ Some d → IsOfMessage (Bound b ∷ t) n d
    by None none g =
        by_test (bindings t + 1 == n)
        (λ e. record {
          later = [];
          binding = b;
          before = t;
          trace = refl;
          one_run = tt;
          numbered = none;
          number = eqb-true (bindings t + 1) n e;
          name = sym (ap (λ (f : Delivery). f.name) (some_same (rw e at g)));
          is = subst (λ (f : Delivery). IsOf [] b f) (some_same (rw e at g)) (bound_is newest (rank_in t b) b);
        })
        (λ e. was_here d (uncalled newest (delivery t n) d (rw e at g)).0)
    by (Some q) joins g = by_join q (delivery t n) refl g

pub of_messages : (u : List Entry) (n : ℕ) (d : Delivery) → delivery u n ≡ Some d → IsOfMessage u n d
of_messages [] n d h = absurd cc
of_messages (Did s ∷ t) n d h =
    let was = of_what (after_event s.event (channels_found t) (named t) (acts_found t) n) (delivery t n) d h
    in later_message (Did s) t n was.0 d refl (of_messages t n was.0 was.1)
    (subst (λ (e : Delivery). Follows None was.0 e) (sym was.2) (event_follows s.event (channels_found t) (named t) (acts_found t) n was.0))
of_messages (Out c i ∷ t) n d h =
    let was = of_what (after_put (number_named t) i c n (sending t c)) (delivery t n) d h
    in later_message (Out c i) t n was.0 d refl (of_messages t n was.0 was.1)
    (subst (λ (e : Delivery). Follows None was.0 e) (sym was.2) (item_follows (number_named t) i c n (sending t c) was.0))
of_messages (Took c k ∷ t) n d h = later_message (Took c k) t n d d refl (of_messages t n d h) (same d)
of_messages (Booked acts full ∷ t) n d h = later_message (Booked acts full) t n d d refl (of_messages t n d h) (same d)
of_messages (Routed passage ∷ t) n d h = later_message (Routed passage) t n d d refl (of_messages t n d h) (same d)
of_messages (Began g ∷ t) n d h = absurd cc
of_messages (Bound b ∷ t) n d h = bound_message b t n d h (λ e there. of_messages t n e there)

-- only bound deliveries exist
pub there_bound : (u : List Entry) (n : ℕ) (d : Delivery) → delivery u n ≡ Some d → n ≤ bindings u
there_bound u n d h = there_before u n d (of_messages u n d h)

-- a delivery whose outcome must be reported was not presettled, unless its producer's delivery was joined to it; and no message is, whose producer had settled it
-- what holds of each binding holds of one
pub each_bound : (P : List Entry → Binding → Type 0) (later t : List Entry) (b : Binding) → EachBound P (later ++ Bound b ∷ t) → P t b
each_bound P [] t b each = each.0
each_bound P (Did s ∷ later) t b each = each_bound P later t b each
each_bound P (Out c i ∷ later) t b each = each_bound P later t b each
each_bound P (Took c k ∷ later) t b each = each_bound P later t b each
each_bound P (Bound a ∷ later) t b each = each_bound P later t b each.1
each_bound P (Booked acts full ∷ later) t b each = each_bound P later t b each
each_bound P (Routed passage ∷ later) t b each = each_bound P later t b each
each_bound P (Began g ∷ later) t b each = each_bound P later t b each
