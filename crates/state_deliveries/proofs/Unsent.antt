-- Whether there is a first delivery, and links on which frames of deliveries remain to be sent.
use Rattle.std.proofs.Common.{◌≡◌, ◌∙◌, ◌<◌, ◌≤◌, ◌+◌, ◌&&◌, ℕ, zero, suc, Bool, true, false, refl, sym, ap, arith, Option, Some, None}
use Rattle.std.specs.Prelude.{◌==◌, is_some}
use Rattle.std.proofs.lemmas.Bool.{eqb-true}
use Rattle.std.proofs.lemmas.Bool.Decides.{nat_tests}
use Rattle.router_trace.specs.declared.binding.Rank.{Rank}
use Rattle.router_trace.specs.Trace.{Trace}
use Rattle.router_trace.specs.Deliveries.{Delivery, bindings, delivery}
use Rattle.router_trace.specs.Following.{first_delivery, is_unsent_on}
use Rattle.router_trace.specs.Numbers.{first_below, or_other, if_passes}
use Rattle.state_deliveries.specs.Finding.{IsFirst, IsFirstBy, is_above}
use Rattle.router_trace.proofs.Numbers.{none_below}
use Rattle.state_deliveries.proofs.Numbers.{stands_below}

-- there is a first number below a bound exactly if one passes
or_some : (v w : Option ℕ) → is_some w ≡ true → is_some (or_other v w) ≡ true
or_some None w e = e
or_some (Some n) w e = refl

or_first : (v w : Option ℕ) → is_some v ≡ true → is_some (or_other v w) ≡ true
or_first None w e = absurd cc
or_first (Some n) w e = refl

pub first_there : (b : ℕ) (p : ℕ → Bool) (n : ℕ) → n < b → p n ≡ true → is_some (first_below b p) ≡ true
unfolding first_below
first_there zero p n l e = absurd (omega (arith, l))
first_there (suc b) p n l e = by_test (n == b) refl (λ k. first_there b p n k e)
  where
    less : (n b : ℕ) → n < suc b → (n == b) ≡ false → n < b
    less n b l e = grind (arith, nat_tests)

    here : (t : Bool) (b : ℕ) → t ≡ true → is_some (if_passes t b) ≡ true
    here true b e = refl
    here false b e = absurd cc

    by_test : (t : Bool) → (n == b) ≡ t → (n < b → is_some (first_below b p) ≡ true) → is_some (or_other (first_below b p) (if_passes (p b) b)) ≡ true
    by_test true q below = or_some (first_below b p) _ (here (p b) b (ap p (sym (eqb-true n b q)) ∙ e))
    by_test false q below = or_first (first_below b p) _ (below (less n b l q))

pub there_first : (b : ℕ) (p : ℕ → Bool) → is_some (first_below b p) ≡ true → (n : ℕ) × (p n ≡ true)
unfolding first_below
there_first zero p e = absurd cc
there_first (suc b) p e = by_test (p b) refl (λ k. there_first b p k)
  where
    none : (v : Option ℕ) → is_some (or_other v None) ≡ true → is_some v ≡ true
    none None e = absurd cc
    none (Some n) e = refl

    by_test : (t : Bool) → p b ≡ t → (is_some (first_below b p) ≡ true → (n : ℕ) × (p n ≡ true)) → (n : ℕ) × (p n ≡ true)
    by_test true q below = (b, q)
    by_test false q below = below (none (first_below b p) (ap (λ t. is_some (or_other (first_below b p) (if_passes t b))) (sym q) ∙ e))

pub some_delivery : (t : Trace) (passes : Option Delivery → Bool) → passes None ≡ false → (n : ℕ) → passes (delivery t n) ≡ true → is_some (first_delivery t passes) ≡ true
some_delivery t passes none n e = first_there (bindings t + 1) (λ m. passes (delivery t m)) n (stands_below t passes none n e) e

-- whether there is a first one by ranks
pub some_by : (t : Trace) (passes : Option Delivery → Bool) (rank : ℕ → Rank) → passes None ≡ false → (r : Option ℕ) → IsFirstBy rank (λ n. passes (delivery t n)) r
    → is_some r ≡ is_some (first_delivery t passes)
some_by t passes rank none None x = sym (ap is_some (none_below (bindings t + 1) (λ n. passes (delivery t n)) (λ n l. x n)))
some_by t passes rank none (Some n) x = sym (some_delivery t passes none n x.0)

-- the lowest link, above this one or of all, that has numbers which pass
abbrev pub IsFirstLink : (ℕ → ℕ → Bool) → Option ℕ → Option ℕ → Type 0
IsFirstLink passes above None = (k n : ℕ) → is_above above k ≡ true → passes k n ≡ false
IsFirstLink passes above (Some k) =
    (is_above above k ≡ true) × ((n : ℕ) × (passes k n ≡ true)) × ((j n : ℕ) → is_above above j ≡ true → passes j n ≡ true → k ≤ j)

left : (a b : Bool) → (a && b) ≡ true → a ≡ true
left true b e = refl
left false b e = e

right : (a b : Bool) → (a && b) ≡ true → b ≡ true
right true b e = e
right false b e = absurd cc

pub links_are : (t : Trace) (above r : Option ℕ) → IsFirstLink (λ k n. is_unsent_on k (delivery t n)) above r
    → IsFirst (λ k. is_above above k && is_some (first_delivery t (is_unsent_on k))) r
links_are t above None x = λ k. by_test k (is_above above k) refl
  where
    by_test : (k : ℕ) (b : Bool) → is_above above k ≡ b → (b && is_some (first_delivery t (is_unsent_on k))) ≡ false
    by_test k true e = ap is_some (none_below (bindings t + 1) (λ n. is_unsent_on k (delivery t n)) (λ n l. x k n e))
    by_test k false e = refl
links_are t above (Some k) x = (
  ap (λ b. b && is_some (first_delivery t (is_unsent_on k))) x.0
      ∙ some_delivery t (is_unsent_on k) refl x.1.0 x.1.1,
  λ j e. let one : (n : ℕ) × (is_unsent_on j (delivery t n) ≡ true)
      = there_first (bindings t + 1) (λ n. is_unsent_on j (delivery t n)) (right (is_above above j) (is_some (first_delivery t (is_unsent_on j))) e)
      in x.2 j one.0 (left (is_above above j) (is_some (first_delivery t (is_unsent_on j))) e) one.1,
)
