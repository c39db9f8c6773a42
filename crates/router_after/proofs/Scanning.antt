-- Numbers that are visited in order of rank, by a wider test, until one passes the test.
use Rattle.std.proofs.Common.{◌≡◌, ◌∙◌, ℕ, Bool, true, false, refl, sym, ap, arith, Option, Some, None}
use Rattle.std.specs.Prelude.{◌&&◌, ◌||◌, ◌==◌, not, nat_lt}
use Rattle.std.proofs.lemmas.Bool.{and_from, eqb-true}
use Rattle.std.proofs.lemmas.Bool.Decides.{nat_tests}
use Rattle.router_trace.specs.declared.binding.Rank.{Rank}
use Rattle.state_deliveries.specs.Finding.{IsFirstBy, is_behind, is_beyond}

pub not_true : (b : Bool) → (b ≡ true → ⊥) → b ≡ false
not_true true no_way = absurd (no_way refl)
not_true false no_way = refl

-- none up to this one passes
abbrev pub NoneUpTo : (ℕ → Rank) → (ℕ → Bool) → Option ℕ → Type 0
NoneUpTo rank passes last = (m : ℕ) → passes m ≡ true → is_beyond rank last m ≡ true

abbrev pub Wider : (ℕ → Bool) → (ℕ → Bool) → Type 0
Wider wide passes = (m : ℕ) → passes m ≡ true → wide m ≡ true

pub none_yet : (rank : ℕ → Rank) (passes : ℕ → Bool) → NoneUpTo rank passes None
none_yet rank passes = λ m e. refl

-- the next number that may pass does
pub found : (rank : ℕ → Rank) (wide passes : ℕ → Bool) (last : Option ℕ) (n : ℕ) → Wider wide passes → NoneUpTo rank passes last
    → IsFirstBy rank (λ m. is_beyond rank last m && wide m) (Some n) → passes n ≡ true → IsFirstBy rank passes (Some n)
found rank wide passes last n wider none x e = (e, λ m p. x.1 m (and_from (is_beyond rank last m) (wide m) (none m p) (wider m p)))

-- of two different numbers one is behind the other
one_behind : (a b n c d m : ℕ) → (n == m) ≡ false
    → ((nat_lt c a || ((c == a) && nat_lt d b)) || (not (nat_lt a c || ((a == c) && nat_lt b d)) && nat_lt m n)) ≡ false
    → ((nat_lt a c || ((a == c) && nat_lt b d)) || (not (nat_lt c a || ((c == a) && nat_lt d b)) && nat_lt n m)) ≡ true
one_behind a b n c d m f e = grind (arith, nat_tests)

-- it doesn't
pub onward : (rank : ℕ → Rank) (wide passes : ℕ → Bool) (last : Option ℕ) (n : ℕ) → Wider wide passes → NoneUpTo rank passes last
    → IsFirstBy rank (λ m. is_beyond rank last m && wide m) (Some n) → passes n ≡ false → NoneUpTo rank passes (Some n)
onward rank wide passes last n wider none x e = λ m p.
    by_test m (n == m) refl p (x.1 m (and_from (is_beyond rank last m) (wide m) (none m p) (wider m p)))
  where
    by_test : (m : ℕ) (b : Bool) → (n == m) ≡ b → passes m ≡ true → is_behind (rank m) m (rank n) n ≡ false → is_behind (rank n) n (rank m) m ≡ true
    by_test m true f p not_before =
        let wrong : true ≡ false = sym p ∙ ap passes (sym (eqb-true n m f)) ∙ e in
        absurd cc
    by_test m false f p not_before = one_behind (rank n).row (rank n).counter n (rank m).row (rank m).counter m f not_before

-- there is no further number
pub ended : (rank : ℕ → Rank) (wide passes : ℕ → Bool) (last : Option ℕ) → Wider wide passes → NoneUpTo rank passes last
    → IsFirstBy rank (λ m. is_beyond rank last m && wide m) None → IsFirstBy rank passes None
ended rank wide passes last wider none x = λ m. not_true (passes m) (λ p.
    let wrong : true ≡ false = sym (and_from (is_beyond rank last m) (wide m) (none m p) (wider m p)) ∙ x m in
    absurd cc)
