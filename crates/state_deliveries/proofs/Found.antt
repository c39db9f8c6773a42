-- What the indexes find agrees with the deliveries.
use Rattle.std.proofs.Common.{◌≡◌, ◌∙◌, ℕ, Bool, true, false, refl, sym, ap, Option, Some, None}
use Rattle.std.specs.Prelude.{◌&&◌, ◌||◌, ◌==◌, not, is_none, is_some}
use Rattle.amqp_model.specs.declared.state.DeliveryState.{DeliveryState}
use Rattle.router_trace.specs.declared.binding.Origin.{Origin}
use Rattle.router_trace.specs.declared.binding.Rank.{Rank}
use Rattle.router_trace.specs.Deliveries.{Delivery, has_row, is_number, is_of, ranked, waits_on, undecided_on, held_from, is_to_tell, holder}
use Rattle.router_trace.specs.Following.{is_unsent_on}
use Rattle.state_deliveries.specs.Indexing.{standing, from_link, on_link, turn_on}
use Rattle.state_deliveries.specs.Ranking.{is_turn}

on : (link k : ℕ) (holds : Bool) → is_number (on_link link holds) k ≡ ((link == k) && holds)
on link k true = sym (and_true (link == k))
  where
    and_true : (b : Bool) → (b && true) ≡ b
    and_true true = refl
    and_true false = refl
on link k false = sym (and_false (link == k))
  where
    and_false : (b : Bool) → (b && false) ≡ false
    and_false true = refl
    and_false false = refl

pub waits_is : (k : ℕ) (v : Option Delivery) → is_number (standing v).consumer.waiting k ≡ waits_on k v
waits_is k None = refl
waits_is k (Some d) = on d.link.number k (is_none d.id && d.going_on) ∙ three (d.link.number == k) (is_none d.id) d.going_on
  where
    three : (a b e : Bool) → (a && (b && e)) ≡ ((a && b) && e)
    three true b e = refl
    three false b e = refl

-- a number's turn: its link, and its rank
abbrev pub same_rank : Rank → Rank → Bool
same_rank q r = (q.row == r.row) && (q.counter == r.counter)

at_turn : (link k : ℕ) (rank r : Rank) (holds : Bool) → is_turn (turn_on link rank holds) k r ≡ (same_rank rank r && ((link == k) && holds))
at_turn link k rank r true = by (link == k) (same_rank rank r)
  where
    by : (a b : Bool) → (a && b) ≡ (b && (a && true))
    by true true = refl
    by true false = refl
    by false true = refl
    by false false = refl
at_turn link k rank r false = by (link == k) (same_rank rank r)
  where
    by : (a b : Bool) → false ≡ (b && (a && false))
    by true true = refl
    by true false = refl
    by false true = refl
    by false false = refl

and_false : (b : Bool) → false ≡ (b && false)
and_false true = refl
and_false false = refl

pub unsent_is : (k : ℕ) (r : Rank) (v : Option Delivery) → is_turn (standing v).consumer.unsent k r ≡ (same_rank (ranked v) r && is_unsent_on k v)
unsent_is k r None = and_false (same_rank (ranked None) r)
unsent_is k r (Some d) = at_turn d.link.number k d.rank r d.going_on

pub undecided_is : (k : ℕ) (v : Option Delivery) → is_number (standing v).consumer.undecided k ≡ undecided_on k v
undecided_is k None = refl
undecided_is k (Some d) = on d.link.number k (is_none d.outcome && not d.suspended)

pub held_is : (k : ℕ) (v : Option Delivery) → is_number (standing v).producer.held k ≡ held_from k v
held_is k None = refl
held_is k (Some d) = by_origin (holder d) (is_none d.outcome || has_row d.name)
  where
    by_origin : (o : Option Origin) (holds : Bool) → is_number (from_link o holds) k ≡ (is_of k o && holds)
    by_origin None holds = refl
    by_origin (Some p) holds = on p.link.number k holds

pub to_tell_is : (r : Rank) (v : Option Delivery) → is_turn (standing v).producer.to_tell 0 r ≡ (same_rank (ranked v) r && is_to_tell v)
to_tell_is r None = and_false (same_rank (ranked None) r)
to_tell_is r (Some d) = at_turn 0 0 d.rank r (not (is_none d.outcome) && is_some d.origin) ∙ ap (λ b. same_rank d.rank r && b) (by_outcome d.outcome)
  where
    by_outcome : (s : Option DeliveryState) → (not (is_none s) && is_some d.origin) ≡ (is_some s && is_some d.origin)
    by_outcome None = refl
    by_outcome (Some s) = refl
