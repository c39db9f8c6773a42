-- The first number by ranks is what a search of all numbers finds.
use Rattle.std.proofs.Common.{◌≡◌, ◌∙◌, ◌<◌, ◌≤◌, ℕ, zero, suc, Bool, true, false, refl, sym, ap, subst, arith, Option, Some, None}
use Rattle.std.specs.Prelude.{◌&&◌, ◌||◌, ◌==◌, not, nat_lt, if◌then◌else◌}
use Rattle.std.proofs.lemmas.Bool.{eqb-true}
use Rattle.std.proofs.lemmas.Bool.Decides.{nat_tests}
use Rattle.router_trace.specs.declared.binding.Rank.{Rank}
use Rattle.router_trace.specs.Deliveries.{is_earlier}
use Rattle.router_trace.specs.Numbers.{first_ranked, or_earlier}
use Rattle.state_deliveries.specs.Finding.{IsFirstBy, is_behind}

none_ranked : (rank : ℕ → Rank) (bound : ℕ) (passes : ℕ → Bool) → ((n : ℕ) → passes n ≡ false) → first_ranked rank bound passes ≡ None
unfolding first_ranked
none_ranked rank zero passes none = refl
none_ranked rank (suc b) passes none =
    ap (λ t. if t then or_earlier rank (first_ranked rank b passes) b else first_ranked rank b passes) (none b) ∙ none_ranked rank b passes none

-- what is found passes, and is below the bound
pub record IsFoundBelow (bound : ℕ) (passes : ℕ → Bool) (n : ℕ) : Type 0 where
  pub below : n < bound
  pub passing : passes n ≡ true

found_ranked : (rank : ℕ → Rank) (bound : ℕ) (passes : ℕ → Bool) (n : ℕ) → first_ranked rank bound passes ≡ Some n → IsFoundBelow bound passes n
unfolding first_ranked
found_ranked rank zero passes n e = absurd cc
found_ranked rank (suc b) passes n e = by_pass (passes b) refl (first_ranked rank b passes) refl (found_ranked rank b passes) e
  where
    more : (m : ℕ) → IsFoundBelow b passes m → IsFoundBelow (suc b) passes m
    more m x = record { below = let l = x.below in omega (arith, l); passing = x.passing }

    AreFound : Option ℕ → Type 0
    AreFound None = Unit {0}
    AreFound (Some m) = IsFoundBelow (suc b) passes m

    here : passes b ≡ true → Some b ≡ Some n → IsFoundBelow (suc b) passes n
    here is f = subst AreFound f (record { below = omega arith; passing = is })

    by_rank : (t : Bool) (m : ℕ) → passes b ≡ true → IsFoundBelow b passes m → (if t then Some b else Some m) ≡ Some n → IsFoundBelow (suc b) passes n
    by_rank true m is x e = here is e
    by_rank false m is x e = subst AreFound e (more m x)

    by_pass : (t : Bool) → passes b ≡ t → (w : Option ℕ) → first_ranked rank b passes ≡ w → ((m : ℕ) → first_ranked rank b passes ≡ Some m → IsFoundBelow b passes m)
        → (if t then or_earlier rank w b else w) ≡ Some n → IsFoundBelow (suc b) passes n
    by_pass false is w was old e = more n (old n (was ∙ e))
    by_pass true is None was old e = here is e
    by_pass true is (Some m) was old e = by_rank (is_earlier (rank b) (rank m)) m is (old m was) e

-- where no number is before one, a search from the lowest on gives that
not_earlier : (p q l : Bool) → (p || (not q && l)) ≡ false → p ≡ false
not_earlier true q l e = e
not_earlier false q l e = refl

then_earlier : (p q l : Bool) → l ≡ true → (p || (not q && l)) ≡ false → q ≡ true
then_earlier true q l h e = absurd cc
then_earlier false true l h e = refl
then_earlier false false l h e = let wrong : true ≡ false = sym h ∙ e in absurd cc

one_ranked : (rank : ℕ → Rank) (bound n : ℕ) (passes : ℕ → Bool) → n < bound → passes n ≡ true → ((m : ℕ) → passes m ≡ true → is_behind (rank m) m (rank n) n ≡ false)
    → first_ranked rank bound passes ≡ Some n
unfolding first_ranked
one_ranked rank zero n passes l p first = absurd (omega (arith, l))
one_ranked rank (suc b) n passes l p first = by_test (n == b) refl (λ k. one_ranked rank b n passes k p first)
  where
    less : (n b : ℕ) → n < suc b → (n == b) ≡ false → n < b
    less n b l e = grind (arith, nat_tests)

    lower : (m n : ℕ) → m < n → nat_lt m n ≡ true
    lower m n l = grind (arith, nat_tests)

    -- the last number looked at is this one
    last : (w : Option ℕ) → first_ranked rank b passes ≡ w → n ≡ b → or_earlier rank w b ≡ Some n
    last None was is = ap Some (sym is)
    last (Some m) was is =
        let x = found_ranked rank b passes m was in
        let l = x.below in
        ap (λ (k : ℕ). if is_earlier (rank k) (rank m) then Some k else Some m) (sym is)
        ∙ ap (λ t. if t then Some n else Some m)
        (then_earlier (is_earlier (rank m) (rank n)) (is_earlier (rank n) (rank m)) (nat_lt m n) (lower m n (omega (arith, l, is))) (first m x.passing))

    -- it is behind
    behind : (t : Bool) → passes b ≡ t → (if t then or_earlier rank (Some n) b else Some n) ≡ Some n
    behind false is = refl
    behind true is = ap (λ t. if t then Some b else Some n) (not_earlier (is_earlier (rank b) (rank n)) (is_earlier (rank n) (rank b)) (nat_lt b n) (first b is))

    by_test : (t : Bool) → (n == b) ≡ t → (n < b → first_ranked rank b passes ≡ Some n)
        → (if passes b then or_earlier rank (first_ranked rank b passes) b else first_ranked rank b passes) ≡ Some n
    by_test true e below =
        let is : n ≡ b = eqb-true n b e in
        ap (λ t. if t then or_earlier rank (first_ranked rank b passes) b else first_ranked rank b passes) (ap passes (sym is) ∙ p)
        ∙ last (first_ranked rank b passes) refl is
    by_test false e below =
        ap (λ w. if passes b then or_earlier rank w b else w) (below (less n b l e)) ∙ behind (passes b) refl

pub first_ranked_is : (rank : ℕ → Rank) (bound : ℕ) (passes : ℕ → Bool) → ((n : ℕ) → passes n ≡ true → n < bound) → (r : Option ℕ) → IsFirstBy rank passes r
    → r ≡ first_ranked rank bound passes
first_ranked_is rank bound passes low None x = sym (none_ranked rank bound passes x)
first_ranked_is rank bound passes low (Some n) x = sym (one_ranked rank bound n passes (low n x.0) x.0 x.1)
