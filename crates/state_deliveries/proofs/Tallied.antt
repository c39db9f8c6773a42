-- Counts that follow what they count.
use Rattle.std.proofs.Common.{◌≡◌, ◌∙◌, ◌+◌, ◌-◌, ℕ, Bool, true, false, refl, sym, ap, subst, arith, [], Option, Some, None}
use Rattle.std.specs.Prelude.{◌==◌, ◌&&◌, not, if◌then◌else◌, unwrap_or}
use Rattle.std.proofs.lemmas.Bool.{eqb-true}
use Rattle.std.proofs.lemmas.Bool.Decides.{nat_tests}
use Rattle.state_collections.specs.NumberMap.{at_number}
use Rattle.router_trace.specs.Counting.{IsCount}
use Rattle.router_trace.specs.Deliveries.{is_number}
use Rattle.router_trace.proofs.Counts.{no_rise, count_same, count_with, count_without}
use Rattle.state_deliveries.specs.declared.consumers.Consumers.{Consumers}
use Rattle.state_deliveries.specs.declared.tallies.Tallies.{Tallies}
use Rattle.state_deliveries.specs.Indexing.{on_link}
use Rattle.state_deliveries.specs.Tallying.{tally, is_zero, IsTallied, waiting_at, undecided_at, waiting_of, undecided_of, has_none, AreTallied, unless_at, more, less}

-- the tallies of links, of which one number moves from one to another
pub none_tallied : (s : Tallies) → ((k : ℕ) → at_number s.counts k ≡ None) → IsTallied s (λ n. None)
none_tallied s none = record {
  counts = λ k. record { numbers = []; rise = no_rise; pass = λ n. refl; are = sym (ap (λ v. unwrap_or v 0) (none k)) };
  needed = λ k. ap is_zero (none k);
}

pub tallied_same : (s : Tallies) (f g : ℕ → Option ℕ) → ((n : ℕ) → f n ≡ g n) → IsTallied s f → IsTallied s g
tallied_same s f g same x = record {
  counts = λ k. count_same (λ n. is_number (f n) k) (λ n. is_number (g n) k) (λ n. ap (λ v. is_number v k) (same n)) (tally s k) (x.counts k);
  needed = x.needed;
}

-- a count follows one number that moves
counted_moved : (t mid new : ℕ → ℕ) (m : ℕ) (before after : Option ℕ) (known : ℕ → Option ℕ)
    → ((k : ℕ) → mid k ≡ less (is_number before k) (t k))
    → ((k : ℕ) → new k ≡ more (is_number after k) (mid k))
    → known m ≡ before → ((k : ℕ) → IsCount (λ n. is_number (known n) k) (t k)) → (k : ℕ) → IsCount (λ n. is_number (if m == n then after else known n) k) (new k)
counted_moved t mid new m before after known out back is x k =
    let rest : ℕ → Bool = λ n. if m == n then false else is_number (known n) k in
    let none : rest m ≡ false = ap (λ b. if b then false else is_number (known m) k) (itself m) in
    let fewer : IsCount rest (mid k) =
    subst (IsCount rest) (sym (out k)) (count_without (λ n. is_number (known n) k) m (t k) (is_number before k) (ap (λ v. is_number v k) is) (x k)) in
    count_same (λ n. if m == n then is_number after k else rest n) (λ n. is_number (if m == n then after else known n) k) (λ n. by_test n (m == n)) (new k)
    (subst (IsCount (λ n. if m == n then is_number after k else rest n)) (sym (back k)) (count_with rest m (mid k) (is_number after k) none fewer))
  where
    itself : (m : ℕ) → (m == m) ≡ true
    itself m = grind (arith, nat_tests)

    by_test : (n : ℕ) (b : Bool) → (if b then is_number after k else (if b then false else is_number (known n) k)) ≡ is_number (if b then after else known n) k
    by_test n true = refl
    by_test n false = refl

pub tallied_moved : (s mid new : Tallies) (m : ℕ) (before after : Option ℕ) (known : ℕ → Option ℕ)
    → ((k : ℕ) → tally mid k ≡ (if is_number before k then tally s k - 1 else tally s k))
    → ((k : ℕ) → is_zero (at_number s.counts k) ≡ false → is_zero (at_number mid.counts k) ≡ false)
    → ((k : ℕ) → tally new k ≡ (if is_number after k then tally mid k + 1 else tally mid k))
    → ((k : ℕ) → is_zero (at_number mid.counts k) ≡ false → is_zero (at_number new.counts k) ≡ false)
    → known m ≡ before → IsTallied s known → IsTallied new (λ n. if m == n then after else known n)
tallied_moved s mid new m before after known out left back kept is x = record {
  counts = counted_moved (tally s) (tally mid) (tally new) m before after known out back is x.counts;
  needed = λ k. kept k (left k (x.needed k));
}

crossed : true ≡ false → ⊥
crossed e = absurd cc

-- the same where a link that stays the same isn't looked up
counted_unless : (t mid new : ℕ → ℕ) (m : ℕ) (before after : Option ℕ) (known : ℕ → Option ℕ)
    → ((k : ℕ) → mid k ≡ less (is_number (unless_at before after) k) (t k))
    → ((k : ℕ) → new k ≡ more (is_number (unless_at after before) k) (mid k))
    → known m ≡ before → ((k : ℕ) → IsCount (λ n. is_number (known n) k) (t k)) → (k : ℕ) → IsCount (λ n. is_number (if m == n then after else known n) k) (new k)
counted_unless t mid new m None None known out back is x = counted_moved t mid new m None None known out back is x
counted_unless t mid new m None (Some b) known out back is x = counted_moved t mid new m None (Some b) known out back is x
counted_unless t mid new m (Some a) None known out back is x = counted_moved t mid new m (Some a) None known out back is x
counted_unless t mid new m (Some a) (Some b) known out back is x = by_test (b == a) (a == b) refl refl
  where
    turned : (a b : ℕ) → (a == b) ≡ (b == a)
    turned a b = grind (arith, nat_tests)

    kept : (n : ℕ) (p : Bool) → (m == n) ≡ p → a ≡ b → known n ≡ (if p then Some b else known n)
    kept n true e same = ap known (sym (eqb-true m n e)) ∙ is ∙ ap (λ k. Some k) same
    kept n false e same = refl

    by_test : (p q : Bool) → (b == a) ≡ p → (a == b) ≡ q → (k : ℕ) → IsCount (λ n. is_number (if m == n then Some b else known n) k) (new k)
    by_test true true e f = λ k.
        count_same (λ n. is_number (known n) k) (λ n. is_number (if m == n then Some b else known n) k)
        (λ n. ap (λ v. is_number v k) (kept n (m == n) refl (eqb-true a b f))) (new k)
        (subst (IsCount (λ n. is_number (known n) k)) (sym (stays k)) (x k))
      where
        stays : (k : ℕ) → new k ≡ t k
        stays k = back k ∙ ap (λ p. more (is_number (if p then None else Some b) k) (mid k)) f
            ∙ out k ∙ ap (λ p. less (is_number (if p then None else Some a) k) (t k)) e
    by_test false false e f =
        counted_moved t mid new m (Some a) (Some b) known
        (λ k. out k ∙ ap (λ p. less (is_number (if p then None else Some a) k) (t k)) e)
        (λ k. back k ∙ ap (λ p. more (is_number (if p then None else Some b) k) (mid k)) f) is x
    by_test true false e f = absurd (crossed (sym e ∙ turned b a ∙ f))
    by_test false true e f = absurd (crossed (sym f ∙ turned a b ∙ e))

-- the rows of consumers' links
pub none_of_links : (s : Consumers) → ((k : ℕ) → at_number s.rows k ≡ None) → AreTallied s (λ n. None) (λ n. None)
none_of_links s none = record {
  waiting = λ k. record { numbers = []; rise = no_rise; pass = λ n. refl; are = sym (ap waiting_of (none k)) };
  undecided = λ k. record { numbers = []; rise = no_rise; pass = λ n. refl; are = sym (ap undecided_of (none k)) };
  needed = λ k. ap has_none (none k);
}

pub all_same : (s : Consumers) (f g p q : ℕ → Option ℕ) → ((n : ℕ) → f n ≡ g n) → ((n : ℕ) → p n ≡ q n) → AreTallied s f p → AreTallied s g q
all_same s f g p q waiting undecided x = record {
  waiting = λ k. count_same (λ n. is_number (f n) k) (λ n. is_number (g n) k) (λ n. ap (λ v. is_number v k) (waiting n)) (waiting_at s k) (x.waiting k);
  undecided = λ k. count_same (λ n. is_number (p n) k) (λ n. is_number (q n) k) (λ n. ap (λ v. is_number v k) (undecided n)) (undecided_at s k) (x.undecided k);
  needed = x.needed;
}

and_true : (b : Bool) → (b && true) ≡ b
and_true true = refl
and_true false = refl

and_false : (b : Bool) → (b && false) ≡ false
and_false true = refl
and_false false = refl

-- the link on which a delivery counts no more, and that on which it counts now
unless_is : (link k : ℕ) (b a : Bool) → is_number (unless_at (on_link link b) (on_link link a)) k ≡ ((link == k) && (b && not a))
unless_is link k true true = ap (λ (e : Bool). is_number (if e then None else Some link) k) (itself link) ∙ sym (and_false (link == k))
  where
    itself : (m : ℕ) → (m == m) ≡ true
    itself m = grind (arith, nat_tests)
unless_is link k true false = sym (and_true (link == k))
unless_is link k false a = sym (and_false (link == k))

pub all_moved : (s mid new : Consumers) (link m : ℕ) (wb wa ub ua : Bool) (waiting undecided : ℕ → Option ℕ)
    → ((k : ℕ) → waiting_at mid k ≡ less ((link == k) && (wb && not wa)) (waiting_at s k))
    → ((k : ℕ) → undecided_at mid k ≡ less ((link == k) && (ub && not ua)) (undecided_at s k))
    → ((k : ℕ) → has_none (at_number s.rows k) ≡ false → has_none (at_number mid.rows k) ≡ false)
    → ((k : ℕ) → waiting_at new k ≡ more ((link == k) && (wa && not wb)) (waiting_at mid k))
    → ((k : ℕ) → undecided_at new k ≡ more ((link == k) && (ua && not ub)) (undecided_at mid k))
    → ((k : ℕ) → has_none (at_number mid.rows k) ≡ false → has_none (at_number new.rows k) ≡ false)
    → waiting m ≡ on_link link wb → undecided m ≡ on_link link ub → AreTallied s waiting undecided
    → AreTallied new (λ n. if m == n then on_link link wa else waiting n) (λ n. if m == n then on_link link ua else undecided n)
all_moved s mid new link m wb wa ub ua waiting undecided out out2 left back back2 kept is is2 x = record {
  waiting = counted_unless (waiting_at s) (waiting_at mid) (waiting_at new) m (on_link link wb) (on_link link wa) waiting
      (λ k. out k ∙ ap (λ b. less b (waiting_at s k)) (sym (unless_is link k wb wa))) (λ k. back k ∙ ap (λ b. more b (waiting_at mid k)) (sym (unless_is link k wa wb))) is x.waiting;
  undecided = counted_unless (undecided_at s) (undecided_at mid) (undecided_at new) m (on_link link ub) (on_link link ua) undecided
      (λ k. out2 k ∙ ap (λ b. less b (undecided_at s k)) (sym (unless_is link k ub ua))) (λ k. back2 k ∙ ap (λ b. more b (undecided_at mid k)) (sym (unless_is link k ua ub))) is2 x.undecided;
  needed = λ k. kept k (left k (x.needed k));
}
