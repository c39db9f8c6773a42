-- The rows of sessions.
use Rattle.std.proofs.Common.{◌≡◌, ◌∙◌, ◌||◌, ℕ, Bool, true, false, refl, sym, ap, cond, List, [], ◌∷◌, Some}
use Rattle.std.specs.Prelude.{◌==◌, is_some}
use Rattle.std.specs.List.{list_any}
use Rattle.std.specs.Map.{lookup}
use Rattle.std.specs.Ordering.{nat_cmp}
use Rattle.std.specs.BTreeMap.{BTreeMap, get, is_at}
use Rattle.std.proofs.lemmas.Bool.{eqb-true}
use Rattle.amqp_session.specs.Ranges.{has}
use Rattle.state_collections.specs.declared.number_map.NumberMap.{NumberMap}
use Rattle.state_collections.specs.NumberMap.{at_number}
use Rattle.state_deliveries.specs.Rowing.{in_row, is_in_any}

pub or_right : (a b : Bool) → b ≡ true → (a || b) ≡ true
or_right true b e = refl
or_right false b e = e

pub or_left : (a b : Bool) → a ≡ true → (a || b) ≡ true
or_left true b e = refl
or_left false b e = absurd cc

-- a session's number is that of any of its connection
pub in_any : {V : Type 0} (m : BTreeMap ℕ (NumberMap V)) (o n : ℕ) → is_some (in_row (get nat_cmp m o) n) ≡ true → is_in_any n m ≡ true
in_any {V} m o n e = by_entry m.entries e
  where
    by_entry : (es : List (ℕ × NumberMap V)) → is_some (in_row (lookup (is_at (nat_cmp o)) es) n) ≡ true → list_any (λ x. is_some (at_number x.1 n)) es ≡ true
    by_entry [] f = f
    by_entry (x ∷ es) f = by_test (is_at (nat_cmp o) x.0) f (by_entry es)
      where
        by_test : (b : Bool) → is_some (in_row (cond b (Some x.1) (lookup (is_at (nat_cmp o)) es)) n) ≡ true
            → (is_some (in_row (lookup (is_at (nat_cmp o)) es) n) ≡ true → list_any (λ x. is_some (at_number x.1 n)) es ≡ true)
            → (is_some (at_number x.1 n) || list_any (λ x. is_some (at_number x.1 n)) es) ≡ true
        by_test true g rest = or_left (is_some (at_number x.1 n)) (list_any (λ x. is_some (at_number x.1 n)) es) g
        by_test false g rest = or_right (is_some (at_number x.1 n)) (list_any (λ x. is_some (at_number x.1 n)) es) (rest g)

-- what a number of a list passes, one of the list passes
pub any_here : (pick : ℕ → Bool) (k : ℕ) (xs : List ℕ) → has k xs ≡ true → pick k ≡ true → list_any pick xs ≡ true
any_here pick k [] e f = e
any_here pick k (x ∷ xs) e f = by_test (k == x) refl e (λ g. any_here pick k xs g f)
  where
    by_test : (b : Bool) → (k == x) ≡ b → ((k == x) || has k xs) ≡ true → (has k xs ≡ true → list_any pick xs ≡ true) → (pick x || list_any pick xs) ≡ true
    by_test true g h rest = or_left (pick x) (list_any pick xs) (ap pick (sym (eqb-true k x g)) ∙ f)
    by_test false g h rest = or_right (pick x) (list_any pick xs) (rest (ap (λ b. b || has k xs) (sym g) ∙ h))
