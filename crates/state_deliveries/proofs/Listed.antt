-- Numbers in order of their handles.
use Rattle.std.proofs.Common.{◌≡◌, ◌∙◌, ◌||◌, ℕ, Bool, true, false, refl, sym, ap, cond, arith, List, [], ◌∷◌, Option, Some, None}
use Rattle.std.specs.Prelude.{◌==◌}
use Rattle.std.specs.List.{AllByRecursion}
use Rattle.std.specs.List.Sorted.{IsStrictlySortedBy}
use Rattle.std.specs.Map.{keys_of, values_of, lookup}
use Rattle.std.specs.Ordering.{nat_cmp}
use Rattle.std.specs.BTreeMap.{is_at}
use Rattle.std.specs.declared.cmp.Ordering.TheVariants.{Less}
use Rattle.std.proofs.lemmas.Bool.{eqb-true}
use Rattle.std.proofs.lemmas.Bool.Decides.{nat_tests}
use Rattle.amqp_session.specs.Ranges.{has}
use Rattle.state_deliveries.specs.Finding.{IsListed}

no_rise : IsStrictlySortedBy nat_cmp []
unfolding IsStrictlySortedBy
no_rise = tt

pub none_listed : (known : ℕ → Option ℕ) (numbers : List ℕ) → ((h : ℕ) → None ≡ known h) → numbers ≡ [] → IsListed known numbers
none_listed known numbers none empty = record { entries = []; rise = no_rise; found = none; are = sym empty }

-- a handle's number is among them
among : (test : ℕ → Bool) (es : List (ℕ × ℕ)) (n : ℕ) → lookup test es ≡ Some n → has n (values_of es) ≡ true
among test [] n e = absurd cc
among test (x ∷ es) n e = by_test (test x.0) refl (among test es n) e
  where
    same : (a b : ℕ) → Some a ≡ Some b → (b == a) ≡ true
    same a b f = grind (arith, nat_tests, f)

    or_true : (a b : Bool) → b ≡ true → (a || b) ≡ true
    or_true true b f = refl
    or_true false b f = f

    by_test : (b : Bool) → test x.0 ≡ b → (lookup test es ≡ Some n → has n (values_of es) ≡ true) → lookup test (x ∷ es) ≡ Some n → ((n == x.1) || has n (values_of es)) ≡ true
    by_test true f rest e = ap (λ b. b || has n (values_of es)) (same x.1 n (ap (λ b. cond b (Some x.1) (lookup test es)) (sym f) ∙ e))
    by_test false f rest e = or_true (n == x.1) (has n (values_of es)) (rest (ap (λ b. cond b (Some x.1) (lookup test es)) (sym f) ∙ e))

pub listed_has : (known : ℕ → Option ℕ) (numbers : List ℕ) → IsListed known numbers → (h n : ℕ) → known h ≡ Some n → has n numbers ≡ true
listed_has known numbers x h n e = sym (ap (has n) x.are) ∙ among (is_at (nat_cmp h)) x.entries n (x.found h ∙ e)

-- and one of them is a handle's
apart : (test : ℕ → Bool) (es : List (ℕ × ℕ)) (n : ℕ) (P : ℕ → Type 0) → AllByRecursion P (keys_of es) → lookup test es ≡ Some n → (k : ℕ) × (test k ≡ true) × P k
apart test [] n P all e = absurd cc
apart test (x ∷ es) n P all e = by_test (test x.0) refl e (apart test es n P all.1)
  where
    by_test : (b : Bool) → test x.0 ≡ b → lookup test (x ∷ es) ≡ Some n → (lookup test es ≡ Some n → (k : ℕ) × (test k ≡ true) × P k) → (k : ℕ) × (test k ≡ true) × P k
    by_test true f e rest = (x.0, f, all.0)
    by_test false f e rest = rest (ap (λ b. cond b (Some x.1) (lookup test es)) (sym f) ∙ e)

at_itself : (h : ℕ) → is_at (nat_cmp h) h ≡ true
at_itself h = grind (arith, nat_tests)

not_at : (h a k : ℕ) → is_at (nat_cmp h) k ≡ true → nat_cmp a k ≡ Less → is_at (nat_cmp h) a ≡ false
not_at h a k e f = grind (arith, nat_tests, e, f)

handle_of : (es : List (ℕ × ℕ)) (n : ℕ) → IsStrictlySortedBy nat_cmp (keys_of es) → has n (values_of es) ≡ true → (h : ℕ) × (lookup (is_at (nat_cmp h)) es ≡ Some n)
unfolding IsStrictlySortedBy
handle_of [] n rise e = absurd cc
handle_of (x ∷ es) n rise e = by_test (n == x.1) refl e (handle_of es n rise.1)
  where
    behind : (h : ℕ) × (lookup (is_at (nat_cmp h)) es ≡ Some n) → (h : ℕ) × (lookup (is_at (nat_cmp h)) (x ∷ es) ≡ Some n)
    behind found =
        let there = apart (is_at (nat_cmp found.0)) es n (λ k. nat_cmp x.0 k ≡ Less) rise.0 found.1 in
        (found.0, ap (λ b. cond b (Some x.1) (lookup (is_at (nat_cmp found.0)) es)) (not_at found.0 x.0 there.0 there.1 there.2) ∙ found.1)

    by_test : (b : Bool) → (n == x.1) ≡ b → ((n == x.1) || has n (values_of es)) ≡ true → (has n (values_of es) ≡ true → (h : ℕ) × (lookup (is_at (nat_cmp h)) es ≡ Some n))
        → (h : ℕ) × (lookup (is_at (nat_cmp h)) (x ∷ es) ≡ Some n)
    by_test true f e rest = (x.0, ap (λ b. cond b (Some x.1) (lookup (is_at (nat_cmp x.0)) es)) (at_itself x.0) ∙ ap Some (sym (eqb-true n x.1 f)))
    by_test false f e rest = behind (rest (ap (λ b. b || has n (values_of es)) (sym f) ∙ e))

pub has_listed : (known : ℕ → Option ℕ) (numbers : List ℕ) → IsListed known numbers → (n : ℕ) → has n numbers ≡ true → (h : ℕ) × (known h ≡ Some n)
has_listed known numbers x n e =
    let found = handle_of x.entries n x.rise (ap (has n) x.are ∙ e) in
    (found.0, sym (x.found found.0) ∙ found.1)
