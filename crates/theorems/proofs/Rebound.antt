-- What a delivery is after a binding: it is what was bound, under a new number; or it was there before, and may be one that a producer's link has from
-- now on.
use Rattle.std.proofs.Common.{◌≡◌, ◌∙◌, refl, ℕ, ◌+◌, Bool, true, false, List, ◌∷◌}
use Rattle.std.specs.Prelude.{◌==◌, Option, Some, None, if◌then◌else◌}
use Rattle.std.proofs.lemmas.Bool.{eqb-true}
use Rattle.router_trace.specs.declared.binding.Holding.TheVariants as holding
use Rattle.router_trace.specs.declared.binding.Holding.{Holding}
use Rattle.router_trace.specs.declared.binding.Binding.{Binding}
use Rattle.router_trace.specs.declared.binding.DeliveryName.{DeliveryName}
use Rattle.router_trace.specs.Trace.{Entry, Bound}
use Rattle.router_trace.specs.Deliveries.{Delivery, bindings, bound, delivery, joined, is_over, is_undecided, name_in, same_name, unless_over, with_binding, rank_in, holds_standing, held_by}
use Rattle.state_connections.proofs.Lists.{by_test}
use Rattle.state_deliveries.proofs.Called.{same_is, uncalled}
use Rattle.theorems.proofs.Tests.{none_not_some, some_same}

pub record IsNew (b : Binding) (t : List Entry) (n : ℕ) (d : Delivery) : Type 0 where
  pub numbered : holds_standing b.kind ≡ None
  pub number : bindings t + 1 ≡ n
  pub is : bound (name_in t b) (rank_in t b) b ≡ d

pub record IsJoined (b : Binding) (t : List Entry) (n : ℕ) (d : Delivery) : Type 0 where
  pub holding : Holding
  pub joins : holds_standing b.kind ≡ Some holding
  pub before : Delivery
  pub there : delivery t n ≡ Some before
  pub named : before.name ≡ name_in t b
  pub is : held_by holding before ≡ d

-- what such a delivery keeps
pub held_name : (q : Holding) (d : Delivery) → (held_by q d).name ≡ d.name
held_name (holding.Resumed p) d = refl
held_name (holding.Unresumed a) d = refl
held_name (holding.Settled a) d = refl

pub held_link : (q : Holding) (d : Delivery) → (held_by q d).link ≡ d.link
held_link (holding.Resumed p) d = refl
held_link (holding.Unresumed a) d = refl
held_link (holding.Settled a) d = refl

pub held_lasting : (q : Holding) (d : Delivery) → (held_by q d).lasting ≡ d.lasting
held_lasting (holding.Resumed p) d = refl
held_lasting (holding.Unresumed a) d = refl
held_lasting (holding.Settled a) d = refl

pub held_undecided : (q : Holding) (d : Delivery) → is_undecided (held_by q d) ≡ is_undecided d
held_undecided (holding.Resumed p) d = refl
held_undecided (holding.Unresumed a) d = refl
held_undecided (holding.Settled a) d = refl

pub held_outcome : (q : Holding) (d : Delivery) → (held_by q d).outcome ≡ d.outcome
held_outcome (holding.Resumed p) d = refl
held_outcome (holding.Unresumed a) d = refl
held_outcome (holding.Settled a) d = refl

pub held_id : (q : Holding) (d : Delivery) → (held_by q d).id ≡ d.id
held_id (holding.Resumed p) d = refl
held_id (holding.Unresumed a) d = refl
held_id (holding.Settled a) d = refl

pub held_sent : (q : Holding) (d : Delivery) → (held_by q d).sent ≡ d.sent
held_sent (holding.Resumed p) d = refl
held_sent (holding.Unresumed a) d = refl
held_sent (holding.Settled a) d = refl

pub held_payload : (q : Holding) (d : Delivery) → (held_by q d).payload ≡ d.payload
held_payload (holding.Resumed p) d = refl
held_payload (holding.Unresumed a) d = refl
held_payload (holding.Settled a) d = refl

still_there : (x d : Delivery) → unless_over x ≡ Some d → x ≡ d
still_there x d = by (is_over x)
  where
    by : (over : Bool) → (if over then None else Some x) ≡ Some d → x ≡ d
    by true is = absurd (none_not_some is)
    by false is = some_same is

pub data AfterBound (b : Binding) (t : List Entry) (n : ℕ) (d : Delivery) : Type 0 where
  is_new : IsNew b t n d → AfterBound b t n d
  is_joined : IsJoined b t n d → AfterBound b t n d
  is_old : delivery t n ≡ Some d → AfterBound b t n d

pub after_bound : (b : Binding) (t : List Entry) (n : ℕ) (d : Delivery) → delivery (Bound b ∷ t) n ≡ Some d → AfterBound b t n d
after_bound b t n d now = by (holds_standing b.kind) refl now
  where
    newest : DeliveryName
    newest = name_in t b

    by_join : (q : Holding) → holds_standing b.kind ≡ Some q → (v : Option Delivery) → delivery t n ≡ v → joined newest q v ≡ Some d → AfterBound b t n d
    by_join q joins None there now = absurd (none_not_some now)
    by_join q joins (Some x) there now =
        by_test (same_name x.name newest)
        (λ e. is_joined (record { holding = q; joins = joins; before = x; there = there; named = same_is x.name newest e; is = still_there (held_by q x) d (rw e at now) }))
        (λ e. is_old (there ∙ rw e at now))

    by : (j : Option Holding) → holds_standing b.kind ≡ j → with_binding j newest (rank_in t b) b (bindings t + 1 == n) (delivery t n) ≡ Some d → AfterBound b t n d
    by None numbered now =
        by_test (bindings t + 1 == n)
        (λ e. is_new (record { numbered = numbered; number = eqb-true (bindings t + 1) n e; is = some_same (rw e at now) }))
        (λ e. is_old (uncalled newest (delivery t n) d (rw e at now)).0)
    by (Some q) joins now = by_join q joins (delivery t n) refl now
