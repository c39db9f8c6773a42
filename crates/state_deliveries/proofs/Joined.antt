-- The delivery that has a row's name is joined to a producer's link; and what is bound isn't over.
use Rattle.std.proofs.Common.{◌≡◌, ◌∙◌, ℕ, Bool, true, false, refl, sym, ap, Option, Some, None}
use Rattle.std.specs.Prelude.{◌==◌, ◌&&◌, ◌||◌, not, if◌then◌else◌, is_none, is_some}
use Rattle.std.specs.Option.{option_and_then}
use Rattle.std.proofs.lemmas.Bool.{eq-eqb}
use Rattle.amqp_model.specs.declared.state.DeliveryState.{DeliveryState}
use Rattle.router_trace.specs.declared.binding.Binding.{Binding}
use Rattle.router_trace.specs.declared.binding.BindingKind.{BindingKind}
use Rattle.router_trace.specs.declared.binding.BindingKind.TheVariants as kind
use Rattle.router_trace.specs.declared.binding.DeliveryName.{DeliveryName}
use Rattle.router_trace.specs.declared.binding.Holding.{Holding}
use Rattle.router_trace.specs.declared.binding.Holding.TheVariants as holding
use Rattle.router_trace.specs.declared.binding.JoinedTo.TheVariants.{New}
use Rattle.router_trace.specs.declared.binding.Origin.{Origin}
use Rattle.router_trace.specs.declared.binding.Rank.{Rank}
use Rattle.router_trace.specs.declared.binding.Resumed.{Resumed}
use Rattle.router_trace.specs.declared.binding.Resumed.TheVariants.{Settled, Again, Anew, Kept}
use Rattle.router_trace.specs.Deliveries.{Delivery, bound, early_of, either_origin, goes_out, held_by, holds_standing, is_number, is_over, is_put_off, is_sent, joined, joined_to, link_alone, origin_of, outcome_as, outcome_in, outcome_known, owned_of, same_name, told_of, unless_over}
use Rattle.state_deliveries.specs.declared.by_name.ByName.{ByName}
use Rattle.state_deliveries.specs.Calling.{AreCalled, at_name, is_called}
use Rattle.state_deliveries.specs.Stepping.{IsKept}

-- what is bound isn't over: it is to be sent, or its producer waits for its outcome
abbrev holder_of : BindingKind → Option Origin
holder_of k = if is_none (outcome_in k) then either_origin (either_origin (either_origin (origin_of k) (told_of k)) (owned_of k)) (early_of k)
    else either_origin (either_origin (origin_of k) (told_of k)) (owned_of k)

abbrev over_of : BindingKind → Bool
over_of k = not (is_sent k) && ((is_some (outcome_in k) || is_put_off k) && is_none (holder_of k))

has_holder : (p : Origin) (o : Option DeliveryState) → ((is_some o || is_none o) && is_none (if is_none o then Some p else Some p)) ≡ false
has_holder p None = refl
has_holder p (Some s) = refl

never_over : (k : BindingKind) → over_of k ≡ false
never_over (kind.Message origin) = refl
never_over (kind.TakenUp u) = by_how u.how (is_none (holder_of (kind.TakenUp u)))
  where
    by_how : (how : Resumed) (free : Bool) → (not (goes_out how) && ((is_some (outcome_as how) || false) && free)) ≡ false
    by_how (Settled outcome) free = refl
    by_how Again free = refl
    by_how Anew free = refl
    by_how Kept free = refl
never_over (kind.Joined (holding.Resumed p) to) = has_holder p (outcome_known to)
never_over (kind.Joined (holding.Unresumed a) to) = has_holder (link_alone a) (outcome_known to)
never_over (kind.Joined (holding.Settled a) to) = refl

pub bound_kept : (name : DeliveryName) (rank : Rank) (b : Binding) → IsKept (Some (bound name rank b))
bound_kept name rank b = ap (λ (x : Bool). if x then None else Some (bound name rank b)) (never_over b.kind)

-- the one delivery with the name is joined, and no other
pub joined_at : (name : DeliveryName) (q : Holding) (b : Bool) (v : Option Delivery) → b ≡ is_called name v
    → (if b then option_and_then (λ d. unless_over (held_by q d)) v else v) ≡ joined name q v
joined_at name q true None e = refl
joined_at name q false None e = refl
joined_at name q true (Some d) e = ap (λ (is : Bool). if is then unless_over (held_by q d) else Some d) e
joined_at name q false (Some d) e = ap (λ (is : Bool). if is then unless_over (held_by q d) else Some d) e

pub held_name : (q : Holding) (d : Delivery) → (held_by q d).name ≡ d.name
held_name (holding.Resumed p) d = refl
held_name (holding.Unresumed a) d = refl
held_name (holding.Settled a) d = refl

-- it keeps its name
pub still_there : (x d : Delivery) → unless_over x ≡ Some d → x ≡ d
still_there x d e = by_test (is_over x) refl
  where
    of : Option Delivery → Delivery
    of None = x
    of (Some y) = y

    by_test : (over : Bool) → is_over x ≡ over → x ≡ d
    by_test true f = let wrong : None ≡ Some d = sym (ap (λ (b : Bool). if b then None else Some x) f) ∙ e in absurd cc
    by_test false f = ap of (sym (ap (λ (b : Bool). if b then None else Some x) f) ∙ e)

pub was_joined : (name : DeliveryName) (q : Holding) (v : Option Delivery) (d : Delivery) → joined name q v ≡ Some d
    → (before : Delivery) × (v ≡ Some before) × (d.name ≡ before.name)
was_joined name q None d e = absurd cc
was_joined name q (Some x) d e = (x, refl, by_test (same_name x.name name) e)
  where
    of : Option Delivery → DeliveryName
    of None = name
    of (Some y) = y.name

    by_test : (is : Bool) → (if is then unless_over (held_by q x) else Some x) ≡ Some d → d.name ≡ x.name
    by_test true f = sym (ap (λ (y : Delivery). y.name) (still_there (held_by q x) d f)) ∙ held_name q x
    by_test false f = sym (ap of f)

-- where no delivery has the name, none is joined
pub none_has : (s : ByName) (known : ℕ → Option Delivery) (name : DeliveryName) → AreCalled s known → is_some (option_and_then known (at_name s name)) ≡ false
    → (n : ℕ) → is_called name (known n) ≡ false
none_has s known name called none n = sym (called name n) ∙ by_number (at_name s name) refl none
  where
    clash : (v : Option Delivery) → is_some v ≡ false → is_called name v ≡ true → ⊥
    clash None e f = absurd cc
    clash (Some d) e f = absurd cc

    by_number : (v : Option ℕ) → at_name s name ≡ v → is_some (option_and_then known v) ≡ false → is_number v n ≡ false
    by_number None e gone = refl
    by_number (Some m) e gone = by_test (m == n) refl
      where
        there : is_called name (known m) ≡ true
        there = sym (called name m) ∙ ap (λ v. is_number v m) e ∙ eq-eqb m m refl

        by_test : (q : Bool) → (m == n) ≡ q → (m == n) ≡ false
        by_test false f = f
        by_test true f = absurd (clash (known m) gone there)

pub unjoined : (name : DeliveryName) (q : Holding) (v : Option Delivery) → is_called name v ≡ false → joined name q v ≡ v
unjoined name q None e = refl
unjoined name q (Some d) e = ap (λ (is : Bool). if is then unless_over (held_by q d) else Some d) e

-- whether there is a delivery with the row, it is that which is joined, or a new one
pub to_standing : (v : Option Delivery) (q : Holding) (outcome : Option DeliveryState) → is_some v ≡ true → holds_standing (kind.Joined q (joined_to v outcome)) ≡ Some q
to_standing None q outcome e = absurd cc
to_standing (Some d) q outcome e = refl

pub to_new : (v : Option Delivery) (outcome : Option DeliveryState) → is_some v ≡ false → joined_to v outcome ≡ New outcome
to_new None outcome e = refl
to_new (Some d) outcome e = absurd cc
