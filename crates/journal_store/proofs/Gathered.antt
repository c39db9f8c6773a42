-- What is gathered from the last to the first.
use Rattle.std.proofs.Common.{◌≡◌, refl, ℕ, ◌||◌, Bool, true, false, cond, List, [], ◌∷◌, ◌++◌, Option, Some, None}
use Rattle.std.specs.Prelude.{◌==◌, if◌then◌else◌}
use Rattle.std.specs.Option.{option_or}
use Rattle.amqp_model.specs.declared.state.DeliveryState.{DeliveryState}
use Rattle.book_model.specs.declared.act.Decision.{Decision}
use Rattle.book_model.specs.declared.row.RowNumber.{RowNumber}
use Rattle.journal_store.specs.Acting.{outcome_for, is_among}

-- one decision before those that are gathered
pub one_outcome : (n : ℕ) (ds : List Decision) (d : Decision) (old : Option DeliveryState)
    → option_or (outcome_for n (ds ++ d ∷ [])) old ≡ option_or (outcome_for n ds) (if d.row.0 == n then Some d.outcome else old)
one_outcome n [] d old = by_bool (d.row.0 == n)
  where
    by_bool : (b : Bool) → option_or (cond b (Some d.outcome) None) old ≡ cond b (Some d.outcome) old
    by_bool true = refl
    by_bool false = refl
one_outcome n (e ∷ ds) d old = by_bool (e.row.0 == n) (one_outcome n ds d old)
  where
    by_bool : (b : Bool) → option_or (outcome_for n (ds ++ d ∷ [])) old ≡ option_or (outcome_for n ds) (if d.row.0 == n then Some d.outcome else old)
        → option_or (cond b (Some e.outcome) (outcome_for n (ds ++ d ∷ []))) old ≡ option_or (cond b (Some e.outcome) (outcome_for n ds)) (if d.row.0 == n then Some d.outcome else old)
    by_bool true rest = refl
    by_bool false rest = rest

-- one number before those that are gathered
pub one_number : (n : ℕ) (ms : List RowNumber) (m : RowNumber) (old : Bool) → (is_among n (ms ++ m ∷ []) || old) ≡ (is_among n ms || (m.0 == n || old))
one_number n [] m old = by_bool (m.0 == n)
  where
    by_bool : (b : Bool) → ((b || false) || old) ≡ (b || old)
    by_bool true = refl
    by_bool false = refl
one_number n (k ∷ ms) m old = by_bool (k.0 == n) (one_number n ms m old)
  where
    by_bool : (b : Bool) → (is_among n (ms ++ m ∷ []) || old) ≡ (is_among n ms || (m.0 == n || old))
        → ((b || is_among n (ms ++ m ∷ [])) || old) ≡ ((b || is_among n ms) || (m.0 == n || old))
    by_bool true rest = refl
    by_bool false rest = rest
