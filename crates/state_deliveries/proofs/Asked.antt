-- A table's indexes agree with the trace.
use Rattle.std.proofs.Common.{◌≡◌, ◌∙◌, ℕ, Bool, true, refl, sym, ap, arith, Option, Some, None}
use Rattle.std.specs.Prelude.{◌&&◌, ◌==◌}
use Rattle.std.proofs.lemmas.Bool.{and_parts, eqb-true}
use Rattle.std.proofs.lemmas.Bool.Decides.{nat_tests}
use Rattle.router_trace.specs.declared.binding.Rank.{Rank}
use Rattle.state_collections.specs.NumberMap.{at_number}
use Rattle.router_trace.specs.Trace.{Trace}
use Rattle.router_trace.specs.Deliveries.{Delivery, delivery, is_number, ranked, rank_at, waits_on, undecided_on, held_from, is_to_tell}
use Rattle.router_trace.specs.Following.{is_unsent_on}
use Rattle.state_deliveries.specs.declared.store.Store.{Store}
use Rattle.router_trace.specs.Counting.{IsCount}
use Rattle.state_deliveries.specs.Finding.{IsFirstBy, is_behind, is_beyond}
use Rattle.state_deliveries.specs.Fits.{StoreFit}
use Rattle.state_deliveries.specs.Indexing.{standing}
use Rattle.state_deliveries.specs.Ranking.{IsFirstIn, IsFirstGroup, in_group, is_past}
use Rattle.state_deliveries.specs.Tallying.{tally, waiting_at, undecided_at}
use Rattle.state_deliveries.specs.Calling.{NumbersFit}
use Rattle.state_deliveries.proofs.Called.{called_same, numbers_fit}
use Rattle.router_trace.proofs.Counts.{count_same}
use Rattle.state_deliveries.proofs.Found.{same_rank, waits_is, unsent_is, undecided_is, held_is, to_tell_is}
use Rattle.state_deliveries.proofs.Unsent.{IsFirstLink}

pub waits_in : (s : Store) (t : Trace) → StoreFit s t → (k : ℕ) → IsCount (λ n. waits_on k (delivery t n)) (waiting_at s.index.consumers k)
waits_in s t fit k = count_same (λ n. is_number (standing (at_number s.deliveries n)).consumer.waiting k) (λ n. waits_on k (delivery t n))
    (λ n. waits_is k (at_number s.deliveries n) ∙ ap (waits_on k) (fit.deliveries n)) (waiting_at s.index.consumers k) (fit.indexed.indexes.consumers.waiting k)

pub unsent_in : (s : Store) (t : Trace) → StoreFit s t → (k : ℕ) (r : Rank) (n : ℕ) → in_group s.index.unsent k r n ≡ (same_rank (rank_at t n) r && is_unsent_on k (delivery t n))
unsent_in s t fit k r n =
    fit.indexed.indexes.unsent k r n ∙ unsent_is k r (at_number s.deliveries n) ∙ ap (λ (v : Option Delivery). same_rank (ranked v) r && is_unsent_on k v) (fit.deliveries n)

pub undecided_in : (s : Store) (t : Trace) → StoreFit s t → (k : ℕ) → IsCount (λ n. undecided_on k (delivery t n)) (undecided_at s.index.consumers k)
undecided_in s t fit k = count_same (λ n. is_number (standing (at_number s.deliveries n)).consumer.undecided k) (λ n. undecided_on k (delivery t n))
    (λ n. undecided_is k (at_number s.deliveries n) ∙ ap (undecided_on k) (fit.deliveries n)) (undecided_at s.index.consumers k) (fit.indexed.indexes.consumers.undecided k)

pub held_in : (s : Store) (t : Trace) → StoreFit s t → (k : ℕ) → IsCount (λ n. held_from k (delivery t n)) (tally s.index.held k)
held_in s t fit k = count_same (λ n. is_number (standing (at_number s.deliveries n)).producer.held k) (λ n. held_from k (delivery t n))
    (λ n. held_is k (at_number s.deliveries n) ∙ ap (held_from k) (fit.deliveries n)) (tally s.index.held k) (fit.indexed.indexes.held.counts k)

pub to_tell_in : (s : Store) (t : Trace) → StoreFit s t → (r : Rank) (n : ℕ) → in_group s.index.to_tell 0 r n ≡ (same_rank (rank_at t n) r && is_to_tell (delivery t n))
to_tell_in s t fit r n =
    fit.indexed.indexes.to_tell 0 r n ∙ to_tell_is r (at_number s.deliveries n) ∙ ap (λ (v : Option Delivery). same_rank (ranked v) r && is_to_tell v) (fit.deliveries n)

-- and its names with the trace's
pub numbers_of : (s : Store) (t : Trace) → StoreFit s t → NumbersFit s.by_name t
numbers_of s t fit = numbers_fit s.by_name t (called_same s.by_name (at_number s.deliveries) (delivery t) fit.deliveries fit.indexed.called)

-- What is found in an index, where each number has one rank.
abbrev Holds : (Rank → ℕ → Bool) → (ℕ → Rank) → (ℕ → Bool) → Type 0
Holds held rank passes = (r : Rank) (n : ℕ) → held r n ≡ (same_rank (rank n) r && passes n)

itself : (r : Rank) → same_rank r r ≡ true
itself r = by r.row r.counter
  where
    by : (a b : ℕ) → ((a == a) && (b == b)) ≡ true
    by a b = grind (arith, nat_tests)

pub one_rank : (q r : Rank) → same_rank q r ≡ true → q ≡ r
one_rank q r e =
    let x = and_parts (q.row == r.row) (q.counter == r.counter) e in
    ap (λ (k : ℕ). record { row = k; counter = q.counter }) (eqb-true q.row r.row x.0) ∙ ap (λ (k : ℕ). record { row = r.row; counter = k }) (eqb-true q.counter r.counter x.1)

-- the first number behind another is the first by ranks
pub first_by : (held : Rank → ℕ → Bool) (known : ℕ → Option Delivery) (rank : ℕ → Rank) (passes : ℕ → Bool) (from r : Option ℕ) → ((n : ℕ) → ranked (known n) ≡ rank n)
    → Holds held rank passes → IsFirstIn (λ q n. is_past known from q n && held q n) r → IsFirstBy rank (λ n. is_beyond rank from n && passes n) r
first_by held known rank passes from r same holds x = by_found r x
  where
    past : (n : ℕ) → is_past known from (rank n) n ≡ is_beyond rank from n
    past n = by from
      where
        by : (v : Option ℕ) → is_past known v (rank n) n ≡ is_beyond rank v n
        by None = refl
        by (Some m) = ap (λ (q : Rank). is_behind q m (rank n) n) (same m)

    there : (n : ℕ) → (is_past known from (rank n) n && held (rank n) n) ≡ (is_beyond rank from n && passes n)
    there n = ap (λ b. b && held (rank n) n) (past n) ∙ ap (λ b. is_beyond rank from n && b) (holds (rank n) n ∙ ap (λ b. b && passes n) (itself (rank n)))

    its_own : (q : Rank) (n : ℕ) → (is_past known from q n && held q n) ≡ true → rank n ≡ q
    its_own q n e = one_rank (rank n) q (and_parts (same_rank (rank n) q) (passes n) (sym (holds q n) ∙ (and_parts (is_past known from q n) (held q n) e).1)).0

    by_found : (r : Option ℕ) → IsFirstIn (λ q n. is_past known from q n && held q n) r → IsFirstBy rank (λ n. is_beyond rank from n && passes n) r
    by_found None x = λ n. sym (there n) ∙ x (rank n) n
    by_found (Some n) x =
        let is = its_own x.0 n x.1 in (
          sym (there n) ∙ ap (λ q. is_past known from q n && held q n) is ∙ x.1,
          λ m e. ap (λ q. is_behind (rank m) m q n) is ∙ x.2 (rank m) m (there m ∙ e),
        )

-- the lowest link
pub first_link : (held : ℕ → Rank → ℕ → Bool) (rank : ℕ → Rank) (passes : ℕ → ℕ → Bool) → ((k : ℕ) → Holds (held k) rank (passes k)) → (above r : Option ℕ)
    → IsFirstGroup held above r → IsFirstLink passes above r
first_link held rank passes holds above r x = by_found r x
  where
    there : (k n : ℕ) → held k (rank n) n ≡ passes k n
    there k n = holds k (rank n) n ∙ ap (λ b. b && passes k n) (itself (rank n))

    by_found : (r : Option ℕ) → IsFirstGroup held above r → IsFirstLink passes above r
    by_found None x = λ k n a. sym (there k n) ∙ x k (rank n) n a
    by_found (Some k) x = (
      x.0,
      (x.1.1, (and_parts (same_rank (rank x.1.1) x.1.0) (passes k x.1.1) (sym (holds k x.1.0 x.1.1) ∙ x.1.2)).1),
      λ j n a e. x.2 j (rank n) n a (there j n ∙ e),
    )
