-- A table's indexes after a change.
use Rattle.std.proofs.Common.{◌≡◌, ◌∙◌, ℕ, Bool, true, false, refl, sym, ap, subst, [], ◌∷◌, Option, Some, None}
use Rattle.std.specs.Prelude.{◌==◌, if◌then◌else◌, IfSome}
use Rattle.amqp_session.specs.Ranges.{has}
use Rattle.std.proofs.lemmas.Bool.{eqb-true}
use Rattle.router_trace.specs.declared.binding.Rank.{Rank}
use Rattle.router_trace.specs.Deliveries.{Delivery, unless_over}
use Rattle.state_deliveries.specs.declared.by_id.ById.{ById}
use Rattle.state_deliveries.specs.declared.by_rank.ByRank.{ByRank}
use Rattle.state_deliveries.specs.declared.by_rank.Turn.{Turn}
use Rattle.state_deliveries.specs.declared.change.Change.{Change}
use Rattle.state_deliveries.specs.declared.consumers.Consumers.{Consumers}
use Rattle.state_deliveries.specs.declared.handles.Handles.{Handles}
use Rattle.state_deliveries.specs.declared.index.Index.{Index}
use Rattle.state_deliveries.specs.declared.standing.AtConsumer.{AtConsumer}
use Rattle.state_deliveries.specs.declared.standing.AtProducer.{AtProducer}
use Rattle.state_deliveries.specs.declared.standing.Seat.{Seat}
use Rattle.state_deliveries.specs.declared.spots.Spot.{Spot}
use Rattle.state_deliveries.specs.declared.spots.Spots.{Spots}
use Rattle.state_deliveries.specs.declared.tallies.Tallies.{Tallies}
use Rattle.state_deliveries.specs.Indexing.{ConsumerBegins, ConsumerKeys, Indexes, Keys, ProducerBegins, at_consumer, at_consumer_moved, by_producer_moved, concerns, consumer_after, consumer_keys, producer_after, producer_of, seat_of, standing, with_consumer, with_producer}
use Rattle.state_deliveries.specs.Placing.{SpotsFit, HandlesFit, IdsFit, is_id_there}
use Rattle.state_deliveries.specs.Ranking.{in_group, is_turn}
use Rattle.state_deliveries.specs.Tallying.{IsTallied, AreTallied}
use Rattle.state_deliveries.proofs.Handled.{handles_same}
use Rattle.state_deliveries.proofs.Identified.{ids_same}
use Rattle.state_deliveries.proofs.Placed.{fits_same}
use Rattle.state_deliveries.proofs.Tallied.{tallied_same, all_same}

pub indexes_same : (s : Index) (f g : ℕ → Keys) → ((n : ℕ) → f n ≡ g n) → Indexes s f → Indexes s g
indexes_same s f g same x = record {
  consumers = all_same s.consumers (λ n. (f n).consumer.waiting) (λ n. (g n).consumer.waiting) (λ n. (f n).consumer.undecided) (λ n. (g n).consumer.undecided)
      (λ n. ap (λ (q : Keys). q.consumer.waiting) (same n)) (λ n. ap (λ (q : Keys). q.consumer.undecided) (same n)) x.consumers;
  unsent = λ k r n. x.unsent k r n ∙ ap (λ (q : Keys). is_turn q.consumer.unsent k r) (same n);
  held = tallied_same s.held (λ n. (f n).producer.held) (λ n. (g n).producer.held) (λ n. ap (λ (q : Keys). q.producer.held) (same n)) x.held;
  to_tell = λ k r n. x.to_tell k r n ∙ ap (λ (q : Keys). is_turn q.producer.to_tell k r) (same n);
  on = handles_same s.on (λ n. (f n).consumer.on) (λ n. (g n).consumer.on) (λ n. ap (λ (q : Keys). q.consumer.on) (same n)) x.on;
  from = handles_same s.from (λ n. (f n).producer.from) (λ n. (g n).producer.from) (λ n. ap (λ (q : Keys). q.producer.from) (same n)) x.from;
  by_id = ids_same s.by_id (λ n. (f n).producer.by_id) (λ n. (g n).producer.by_id) (λ n. ap (λ (q : Keys). q.producer.by_id) (same n)) x.by_id;
  durable = fits_same s.durable (λ n. (f n).consumer.durable) (λ n. (g n).consumer.durable) (λ n. ap (λ (q : Keys). q.consumer.durable) (same n)) x.durable;
}

-- a number's entries change
by_key : {K A : Type 0} (part : K → A) (b : Bool) (after old : K) → (if b then part after else part old) ≡ part (if b then after else old)
by_key part true after old = refl
by_key part false after old = refl

abbrev pub GroupMoves : ByRank → ByRank → ℕ → Option Turn → Option Turn → Type 0
GroupMoves s t m before after = ((k : ℕ) (r : Rank) → in_group s k r m ≡ is_turn before k r)
    → (k : ℕ) (r : Rank) (n : ℕ) → in_group t k r n ≡ (if m == n then is_turn after k r else in_group s k r n)

abbrev pub TallyMoves : Tallies → Tallies → Option ℕ → Option ℕ → Type 0
TallyMoves s t before after = (m : ℕ) (known : ℕ → Option ℕ) → known m ≡ before → IsTallied s known → IsTallied t (λ n. if m == n then after else known n)

abbrev pub ConsumersMove : Consumers → Consumers → ConsumerKeys → ConsumerKeys → Type 0
ConsumersMove s t before after = (m : ℕ) (waiting undecided : ℕ → Option ℕ) → waiting m ≡ before.waiting → undecided m ≡ before.undecided → AreTallied s waiting undecided
    → AreTallied t (λ n. if m == n then after.waiting else waiting n) (λ n. if m == n then after.undecided else undecided n)

abbrev pub SpotMoves : Spots → Spots → ℕ → Option Spot → Option Spot → Type 0
SpotMoves s t m before after = (known : ℕ → Option Spot) → known m ≡ before → SpotsFit s known → SpotsFit t (λ n. if m == n then after else known n)

abbrev pub HandleMoves : Handles → Handles → ℕ → Option Spot → Option Spot → Type 0
HandleMoves s t m before after = (known : ℕ → Option Spot) → known m ≡ before → HandlesFit s known → HandlesFit t (λ n. if m == n then after else known n)

abbrev pub IdMoves : ById → ById → ℕ → Option Spot → Option Spot → Type 0
IdMoves s t m before after = (known : ℕ → Option Spot) → known m ≡ before → IdsFit s known → IdsFit t (λ n. if m == n then after else known n)

-- the same from and to equal places
pub moves_as : {V : Type 0} (moves : V → V → Type 0) (b c d e : V) → b ≡ c → d ≡ e → moves b d → moves c e
moves_as {V = V} moves b c d e from to x = subst (λ (v : V). moves v e) from (subst (λ (v : V). moves b v) to x)

-- those at its consumer's link
pub consumer_moves : (s t : Index) (m : ℕ) (before after : ConsumerKeys) (known : ℕ → Keys)
    → ConsumersMove s.consumers t.consumers before after → GroupMoves s.unsent t.unsent m before.unsent after.unsent
    → HandleMoves s.on t.on m before.on after.on → SpotMoves s.durable t.durable m before.durable after.durable
    → t.held ≡ s.held → t.to_tell ≡ s.to_tell → t.from ≡ s.from → t.by_id ≡ s.by_id
    → (known m).consumer ≡ before → Indexes s known → Indexes t (at_consumer_moved m after known)
consumer_moves s t m before after known consumers unsent on durable held to_tell from by_id is x = record {
  consumers = all_same t.consumers (λ n. if m == n then after.waiting else (known n).consumer.waiting) (λ n. (if m == n then after else (known n).consumer).waiting)
      (λ n. if m == n then after.undecided else (known n).consumer.undecided) (λ n. (if m == n then after else (known n).consumer).undecided)
      (λ n. by_key (λ (q : ConsumerKeys). q.waiting) (m == n) after (known n).consumer) (λ n. by_key (λ (q : ConsumerKeys). q.undecided) (m == n) after (known n).consumer)
      (consumers m (λ n. (known n).consumer.waiting) (λ n. (known n).consumer.undecided) (ap (λ (q : ConsumerKeys). q.waiting) is) (ap (λ (q : ConsumerKeys). q.undecided) is) x.consumers);
  unsent = λ k r n. unsent (λ j q. x.unsent j q m ∙ ap (λ (y : ConsumerKeys). is_turn y.unsent j q) is) k r n
      ∙ ap (λ b. if m == n then is_turn after.unsent k r else b) (x.unsent k r n) ∙ by_key (λ (q : ConsumerKeys). is_turn q.unsent k r) (m == n) after (known n).consumer;
  held = subst (λ (h : Tallies). IsTallied h (λ n. (known n).producer.held)) (sym held) x.held;
  to_tell = λ k r n. ap (λ (h : ByRank). in_group h k r n) to_tell ∙ x.to_tell k r n;
  on = handles_same t.on (λ n. if m == n then after.on else (known n).consumer.on) (λ n. (if m == n then after else (known n).consumer).on)
      (λ n. by_key (λ (q : ConsumerKeys). q.on) (m == n) after (known n).consumer) (on (λ n. (known n).consumer.on) (ap (λ (q : ConsumerKeys). q.on) is) x.on);
  from = subst (λ (h : Handles). HandlesFit h (λ n. (known n).producer.from)) (sym from) x.from;
  by_id = subst (λ (h : ById). IdsFit h (λ n. (known n).producer.by_id)) (sym by_id) x.by_id;
  durable = fits_same t.durable (λ n. if m == n then after.durable else (known n).consumer.durable) (λ n. (if m == n then after else (known n).consumer).durable)
      (λ n. by_key (λ (q : ConsumerKeys). q.durable) (m == n) after (known n).consumer) (durable (λ n. (known n).consumer.durable) (ap (λ (q : ConsumerKeys). q.durable) is) x.durable);
}

-- those by its producer
pub producer_moves : (s t : Index) (m : ℕ) (before after : AtProducer) (known : ℕ → Keys)
    → TallyMoves s.held t.held before.held after.held → GroupMoves s.to_tell t.to_tell m before.to_tell after.to_tell
    → HandleMoves s.from t.from m before.from after.from → IdMoves s.by_id t.by_id m before.by_id after.by_id
    → t.consumers ≡ s.consumers → t.unsent ≡ s.unsent → t.on ≡ s.on → t.durable ≡ s.durable
    → (known m).producer ≡ before → Indexes s known → Indexes t (by_producer_moved m after known)
producer_moves s t m before after known held to_tell from by_id consumers unsent on durable is x = record {
  consumers = subst (λ (h : Consumers). AreTallied h (λ n. (known n).consumer.waiting) (λ n. (known n).consumer.undecided)) (sym consumers) x.consumers;
  unsent = λ k r n. ap (λ (h : ByRank). in_group h k r n) unsent ∙ x.unsent k r n;
  held = tallied_same t.held (λ n. if m == n then after.held else (known n).producer.held) (λ n. (if m == n then after else (known n).producer).held)
      (λ n. by_key (λ (q : AtProducer). q.held) (m == n) after (known n).producer) (held m (λ n. (known n).producer.held) (ap (λ (q : AtProducer). q.held) is) x.held);
  to_tell = λ k r n. to_tell (λ j q. x.to_tell j q m ∙ ap (λ (y : AtProducer). is_turn y.to_tell j q) is) k r n
      ∙ ap (λ b. if m == n then is_turn after.to_tell k r else b) (x.to_tell k r n) ∙ by_key (λ (q : AtProducer). is_turn q.to_tell k r) (m == n) after (known n).producer;
  on = subst (λ (h : Handles). HandlesFit h (λ n. (known n).consumer.on)) (sym on) x.on;
  from = handles_same t.from (λ n. if m == n then after.from else (known n).producer.from) (λ n. (if m == n then after else (known n).producer).from)
      (λ n. by_key (λ (q : AtProducer). q.from) (m == n) after (known n).producer) (from (λ n. (known n).producer.from) (ap (λ (q : AtProducer). q.from) is) x.from);
  by_id = ids_same t.by_id (λ n. if m == n then after.by_id else (known n).producer.by_id) (λ n. (if m == n then after else (known n).producer).by_id)
      (λ n. by_key (λ (q : AtProducer). q.by_id) (m == n) after (known n).producer) (by_id (λ n. (known n).producer.by_id) (ap (λ (q : AtProducer). q.by_id) is) x.by_id);
  durable = subst (λ (h : Spots). SpotsFit h (λ n. (known n).consumer.durable)) (sym durable) x.durable;
}

-- nothing moves there
pub consumer_rests : (s : Index) (m : ℕ) (known : ℕ → Keys) → Indexes s known → Indexes s (at_consumer_moved m (known m).consumer known)
consumer_rests s m known x = indexes_same s known (at_consumer_moved m (known m).consumer known) (λ n. by_test n (m == n) refl) x
  where
    by_test : (n : ℕ) (b : Bool) → (m == n) ≡ b → known n ≡ with_consumer (if b then (known m).consumer else (known n).consumer) (known n)
    by_test n true e = ap (λ k. with_consumer (known k).consumer (known n)) (sym (eqb-true m n e))
    by_test n false e = refl

pub producer_rests : (s : Index) (m : ℕ) (known : ℕ → Keys) → Indexes s known → Indexes s (by_producer_moved m (known m).producer known)
producer_rests s m known x = indexes_same s known (by_producer_moved m (known m).producer known) (λ n. by_test n (m == n) refl) x
  where
    by_test : (n : ℕ) (b : Bool) → (m == n) ≡ b → known n ≡ with_producer (if b then (known m).producer else (known n).producer) (known n)
    by_test n true e = ap (λ k. with_producer (known k).producer (known n)) (sym (eqb-true m n e))
    by_test n false e = refl

-- first the ones, then the others
pub both_moved : (s : Index) (m : ℕ) (c : ConsumerKeys) (p : AtProducer) (known : ℕ → Keys)
    → Indexes s (by_producer_moved m p (at_consumer_moved m c known))
    → Indexes s (λ n. if m == n then record { consumer = c; producer = p } else known n)
both_moved s m c p known x = indexes_same s (by_producer_moved m p (at_consumer_moved m c known))
    (λ n. if m == n then record { consumer = c; producer = p } else known n) (λ n. by_test n (m == n)) x
  where
    by_test : (n : ℕ) (b : Bool) → with_producer (if b then p else (known n).producer) (with_consumer (if b then c else (known n).consumer) (known n))
        ≡ (if b then record { consumer = c; producer = p } else known n)
    by_test n true = refl
    by_test n false = refl

-- the same of entries by a seat, and by how a delivery stands there
abbrev pub entries : Seat → AtConsumer → AtProducer → Keys
entries seat c p = record { consumer = consumer_keys seat c; producer = p }

pub both_entered : (s t u : Index) (m : ℕ) (known : ℕ → Keys) (seat : Seat) (before after : AtConsumer) (was is : AtProducer)
    (seat_is : Seat) (before_is after_is : AtConsumer) (was_is is_is : AtProducer) → seat_is ≡ seat → before_is ≡ before → after_is ≡ after → was_is ≡ was → is_is ≡ is
    → ((known : ℕ → Keys) → (known m).consumer ≡ consumer_keys seat_is before_is → Indexes s known → Indexes t (at_consumer_moved m (consumer_keys seat_is after_is) known))
    → ((known : ℕ → Keys) → (known m).producer ≡ was_is → Indexes t known → Indexes u (by_producer_moved m is_is known))
    → known m ≡ entries seat before was → Indexes s known → Indexes u (λ n. if m == n then entries seat after is else known n)
both_entered s t u m known seat before after was is seat_is before_is after_is was_is is_is a b d e f first second there x =
    both_moved u m (consumer_keys seat after) is known
    (subst (λ (c : ConsumerKeys). Indexes u (by_producer_moved m is (at_consumer_moved m c known))) (λ i. consumer_keys (a i) (d i))
    (subst (λ (p : AtProducer). Indexes u (by_producer_moved m p (at_consumer_moved m (consumer_keys seat_is after_is) known))) f
    (second (at_consumer_moved m (consumer_keys seat_is after_is) known) (ap (λ (k : Keys). k.producer) there ∙ sym e)
    (first known (ap (λ (k : Keys). k.consumer) there ∙ sym (λ i. consumer_keys (a i) (b i))) x))))

-- where a change may have moved them
pub consumer_followed : (s t : Index) (m : ℕ) (known : ℕ → Keys) (v : Option AtConsumer) (before : AtConsumer) (d : Delivery) (seat : Seat) (after : AtConsumer)
    → v ≡ Some before → seat ≡ seat_of d → after ≡ at_consumer d
    → ((known : ℕ → Keys) → (known m).consumer ≡ consumer_keys seat before → Indexes s known → Indexes t (at_consumer_moved m (consumer_keys seat after) known))
    → ConsumerBegins v d (known m).consumer → Indexes s known → Indexes t (at_consumer_moved m (consumer_after v d (known m).consumer) known)
consumer_followed s t m known v before d seat after is a b moves begins x =
    subst (λ (w : Option AtConsumer). Indexes t (at_consumer_moved m (consumer_after w d (known m).consumer) known)) (sym is)
    (subst (λ (c : ConsumerKeys). Indexes t (at_consumer_moved m c known)) (λ i. consumer_keys (a i) (b i))
    (moves known (subst (λ (w : Option AtConsumer). ConsumerBegins w d (known m).consumer) is begins ∙ ap (λ p. consumer_keys p before) (sym a)) x))

pub producer_followed : (s t : Index) (m : ℕ) (known : ℕ → Keys) (v : Option AtProducer) (before : AtProducer) (d : Delivery) (after : AtProducer)
    → v ≡ Some before → after ≡ producer_of (unless_over d)
    → ((known : ℕ → Keys) → (known m).producer ≡ before → Indexes s known → Indexes t (by_producer_moved m after known))
    → ProducerBegins v (known m).producer → Indexes s known → Indexes t (by_producer_moved m (producer_after v d (known m).producer) known)
producer_followed s t m known v before d after is a moves begins x =
    subst (λ (w : Option AtProducer). Indexes t (by_producer_moved m (producer_after w d (known m).producer) known)) (sym is)
    (subst (λ (p : AtProducer). Indexes t (by_producer_moved m p known)) a
    (moves known (subst (λ (w : Option AtProducer). ProducerBegins w (known m).producer) is begins) x))

-- one delivery was changed in its place, added or removed
pub put_at : (s : Index) (m : ℕ) (g : Option Delivery → Option Delivery) (old new : ℕ → Option Delivery) → ((n : ℕ) → new n ≡ (if m == n then g (old n) else old n))
    → Indexes s (λ n. if m == n then standing (g (old m)) else standing (old n)) → Indexes s (λ n. standing (new n))
put_at s m g old new at x = indexes_same s (λ n. if m == n then standing (g (old m)) else standing (old n)) (λ n. standing (new n))
    (λ n. by_test (m == n) n refl ∙ ap standing (sym (at n))) x
  where
    by_test : (b : Bool) (n : ℕ) → (m == n) ≡ b → (if b then standing (g (old m)) else standing (old n)) ≡ standing (if b then g (old n) else old n)
    by_test true n e = ap (λ k. standing (g (old k))) (eqb-true m n e)
    by_test false n e = refl

-- the only delivery that a change may change, by the only one with an id from its producer
pub sole_there : (s : Index) (x : Change) (c o first last : ℕ) (v : Option ℕ) → ((k : Keys) → concerns x k ≡ is_id_there c o first last k.producer.by_id)
    → IfSome v (λ k. (known : ℕ → Option Spot) → IdsFit s.by_id known → (n : ℕ) → is_id_there c o first last (known n) ≡ true → has n (k ∷ []) ≡ true)
    → IfSome v (λ k. (known : ℕ → Keys) → Indexes s known → (n : ℕ) → concerns x (known n) ≡ true → has n (k ∷ []) ≡ true)
sole_there s x c o first last None same only = tt
sole_there s x c o first last (Some k) same only = λ known fit n there. only (λ m. (known m).producer.by_id) fit.by_id n (sym (same (known n)) ∙ there)

pub sole_found : (s : Index) (x : Change) (v : Option ℕ) (k : ℕ) → v ≡ Some k
    → IfSome v (λ k. (known : ℕ → Keys) → Indexes s known → (n : ℕ) → concerns x (known n) ≡ true → has n (k ∷ []) ≡ true)
    → (known : ℕ → Keys) → Indexes s known → (n : ℕ) → concerns x (known n) ≡ true → has n (k ∷ []) ≡ true
sole_found s x v k is only = subst (λ (w : Option ℕ). IfSome w (λ k. (known : ℕ → Keys) → Indexes s known → (n : ℕ) → concerns x (known n) ≡ true → has n (k ∷ []) ≡ true)) is only
