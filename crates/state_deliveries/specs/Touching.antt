-- Links whose deliveries may have changed since they were last forgotten.
use Rattle.std.specs.Prelude.{◌≡◌, ℕ, Bool, false, Option}
use Rattle.state_collections.specs.NumberMap.{at_number}
use Rattle.state_collections.specs.NumberSet.{has as is_marked}
use Rattle.router_trace.specs.Deliveries.{Delivery, is_number, waits_on, undecided_on, held_from}
use Rattle.state_deliveries.specs.declared.deliveries.Deliveries.{Deliveries}
use Rattle.state_deliveries.specs.Indexing.{ConsumerKeys, Keys}
use Rattle.state_deliveries.specs.declared.store.Store.{Store}
use Rattle.state_deliveries.specs.declared.touched.Touched.{Touched}

-- a link was touched
abbrev pub is_touched_in : Touched → ℕ → Bool
is_touched_in s k = is_marked s.links k

abbrev pub is_touched : Deliveries → ℕ → Bool
is_touched s k = is_touched_in s.store.touched k

-- the tests of a delivery on a link have the same results
pub record IsSameOn (k : ℕ) (v w : Option Delivery) : Type 0 where
  pub waits : waits_on k v ≡ waits_on k w
  pub undecided : undecided_on k v ≡ undecided_on k w
  pub held : held_from k v ≡ held_from k w

-- it has the same entries on the link
pub record SameAtConsumer (k : ℕ) (a b : ConsumerKeys) : Type 0 where
  pub waiting : is_number a.waiting k ≡ is_number b.waiting k
  pub undecided : is_number a.undecided k ≡ is_number b.undecided k

pub record StandsSame (k : ℕ) (a b : Keys) : Type 0 where
  pub consumer : SameAtConsumer k a.consumer b.consumer
  pub held : is_number a.producer.held k ≡ is_number b.producer.held k

-- the links that are not touched have not changed and were not touched before
pub record StoreTouches (old new : Store) : Type 0 where
  pub before : (k : ℕ) → is_touched_in new.touched k ≡ false → is_touched_in old.touched k ≡ false
  pub same : (k n : ℕ) → is_touched_in new.touched k ≡ false → IsSameOn k (at_number old.deliveries n) (at_number new.deliveries n)

abbrev pub Touches : Deliveries → Deliveries → Type 0
Touches old new = StoreTouches old.store new.store
