-- What is touched after changes of a store.
use Rattle.std.proofs.Common.{◌≡◌, ◌∙◌, ℕ, Bool, true, false, refl, sym, ap, subst, Option, Some}
use Rattle.std.specs.Prelude.{◌==◌, if◌then◌else◌}
use Rattle.state_collections.specs.NumberMap.{at_number}
use Rattle.std.proofs.lemmas.Bool.{eqb-true}
use Rattle.router_trace.specs.Deliveries.{Delivery, is_number, unless_over, waits_on, undecided_on, held_from}
use Rattle.state_deliveries.specs.declared.standing.AtConsumer.{AtConsumer}
use Rattle.state_deliveries.specs.declared.standing.AtProducer.{AtProducer}
use Rattle.state_deliveries.specs.declared.standing.Seat.{Seat}
use Rattle.state_deliveries.specs.Indexing.{ConsumerBegins, ConsumerKeys, Keys, ProducerBegins, at_consumer, consumer_after, consumer_keys, producer_after, producer_of, seat_of, standing}
use Rattle.state_deliveries.specs.declared.store.Store.{Store}
use Rattle.state_deliveries.specs.Touching.{is_touched_in, IsSameOn, SameAtConsumer, StandsSame, StoreTouches}
use Rattle.state_deliveries.proofs.Found.{waits_is, undecided_is, held_is}
use Rattle.state_deliveries.proofs.Reindexed.{entries}

pub same_on : (k : ℕ) (v w : Option Delivery) → v ≡ w → IsSameOn k v w
same_on k v w e = record { waits = ap (waits_on k) e; undecided = ap (undecided_on k) e; held = ap (held_from k) e }

-- the same by its entries
on_standing : (k : ℕ) (v w : Option Delivery) → StandsSame k (standing v) (standing w) → IsSameOn k v w
on_standing k v w x = record {
  waits = sym (waits_is k v) ∙ x.consumer.waiting ∙ waits_is k w;
  undecided = sym (undecided_is k v) ∙ x.consumer.undecided ∙ undecided_is k w;
  held = sym (held_is k v) ∙ x.held ∙ held_is k w;
}

-- nothing done, and one change after the other
pub touches_nothing : (old new : Store) → new.touched ≡ old.touched → ((n : ℕ) → at_number new.deliveries n ≡ at_number old.deliveries n) → StoreTouches old new
touches_nothing old new e same = record {
  before = λ k f. ap (λ s. is_touched_in s k) (sym e) ∙ f;
  same = λ k n f. same_on k (at_number old.deliveries n) (at_number new.deliveries n) (sym (same n));
}

pub touches_self : (s : Store) → StoreTouches s s
touches_self s = touches_nothing s s refl (λ n. refl)

pub touches_then : (old middle new : Store) → StoreTouches old middle → StoreTouches middle new → StoreTouches old new
touches_then old middle new x y = record {
  before = λ k f. x.before k (y.before k f);
  same = λ k n f. let a = x.same k n (y.before k f) in let b = y.same k n f in record { waits = a.waits ∙ b.waits; undecided = a.undecided ∙ b.undecided; held = a.held ∙ b.held };
}

-- the same entries, by a seat and by how a delivery stands there
pub stands_as : (k : ℕ) (seat : Seat) (before after : AtConsumer) (was is : AtProducer)
    (seat_is : Seat) (before_is after_is : AtConsumer) (was_is is_is : AtProducer) → seat_is ≡ seat → before_is ≡ before → after_is ≡ after → was_is ≡ was → is_is ≡ is
    → SameAtConsumer k (consumer_keys seat_is before_is) (consumer_keys seat_is after_is) → is_number was_is.held k ≡ is_number is_is.held k
    → StandsSame k (entries seat before was) (entries seat after is)
stands_as k seat before after was is seat_is before_is after_is was_is is_is a b d e f x y = record {
  consumer = subst (λ (c : ConsumerKeys). SameAtConsumer k (consumer_keys seat before) c) (λ i. consumer_keys (a i) (d i))
      (subst (λ (c : ConsumerKeys). SameAtConsumer k c (consumer_keys seat_is after_is)) (λ i. consumer_keys (a i) (b i)) x);
  held = ap (λ (p : AtProducer). is_number p.held k) (sym e) ∙ y ∙ ap (λ (p : AtProducer). is_number p.held k) f;
}

pub consumer_touched : (k : ℕ) (q : ConsumerKeys) (v : Option AtConsumer) (before : AtConsumer) (d : Delivery) (seat : Seat) (after : AtConsumer)
    → v ≡ Some before → seat ≡ seat_of d → after ≡ at_consumer d → SameAtConsumer k (consumer_keys seat before) (consumer_keys seat after)
    → ConsumerBegins v d q → SameAtConsumer k q (consumer_after v d q)
consumer_touched k q v before d seat after is a b x begins =
    subst (λ (w : Option AtConsumer). SameAtConsumer k q (consumer_after w d q)) (sym is)
    (subst (λ (c : ConsumerKeys). SameAtConsumer k q c) (λ i. consumer_keys (a i) (b i))
    (subst (λ (c : ConsumerKeys). SameAtConsumer k c (consumer_keys seat after))
    (ap (λ p. consumer_keys p before) a ∙ sym (subst (λ (w : Option AtConsumer). ConsumerBegins w d q) is begins)) x))

pub producer_touched : (k : ℕ) (q : AtProducer) (v : Option AtProducer) (before : AtProducer) (d : Delivery) (after : AtProducer)
    → v ≡ Some before → after ≡ producer_of (unless_over d) → is_number before.held k ≡ is_number after.held k
    → ProducerBegins v q → is_number q.held k ≡ is_number (producer_after v d q).held k
producer_touched k q v before d after is a x begins =
    subst (λ (w : Option AtProducer). is_number q.held k ≡ is_number (producer_after w d q).held k) (sym is)
    (ap (λ (p : AtProducer). is_number p.held k) (subst (λ (w : Option AtProducer). ProducerBegins w q) is begins) ∙ x ∙ ap (λ (p : AtProducer). is_number p.held k) a)

-- one delivery was changed in its place, added or removed
pub touches_at : (old new : Store) (m : ℕ) (g : Option Delivery → Option Delivery) (stood stands : Keys)
    → stood ≡ standing (at_number old.deliveries m) → stands ≡ standing (g (at_number old.deliveries m))
    → ((n : ℕ) → at_number new.deliveries n ≡ (if m == n then g (at_number old.deliveries n) else at_number old.deliveries n))
    → ((k : ℕ) → is_touched_in new.touched k ≡ false → (is_touched_in old.touched k ≡ false) × StandsSame k stood stands)
    → StoreTouches old new
touches_at old new m g stood stands was is at noted = record {
  before = λ k f. (noted k f).0;
  same = λ k n f. by_test k n (m == n) refl (noted k f).1;
}
  where
    by_test : (k n : ℕ) (b : Bool) → (m == n) ≡ b → StandsSame k stood stands → IsSameOn k (at_number old.deliveries n) (at_number new.deliveries n)
    by_test k n true e x =
        let here : at_number old.deliveries m ≡ at_number old.deliveries n = ap (at_number old.deliveries) (eqb-true m n e) in
        let now : at_number new.deliveries n ≡ g (at_number old.deliveries n) = at n ∙ ap (λ b. if b then g (at_number old.deliveries n) else at_number old.deliveries n) e in
        let first : StandsSame k (standing (at_number old.deliveries n)) stands = subst (λ (a : Keys). StandsSame k a stands) (was ∙ ap standing here) x in
        let both : StandsSame k (standing (at_number old.deliveries n)) (standing (at_number new.deliveries n)) =
        subst (λ (a : Keys). StandsSame k (standing (at_number old.deliveries n)) a) (is ∙ ap (λ v. standing (g v)) here ∙ ap standing (sym now)) first in
        on_standing k (at_number old.deliveries n) (at_number new.deliveries n) both
    by_test k n false e x = same_on k (at_number old.deliveries n) (at_number new.deliveries n)
        (sym (at n ∙ ap (λ b. if b then g (at_number old.deliveries n) else at_number old.deliveries n) e))
