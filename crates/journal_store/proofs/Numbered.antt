-- What was gathered by number, in the order of the book's rows.
use Rattle.std.proofs.Common.{◌≡◌, ◌∙◌, ap, refl, ℕ, ◌<◌, Bool, true, false, cond, ◌||◌, not, List, [], ◌∷◌, Option, Some, None, arith}
use Rattle.std.specs.Prelude.{find, is_some, option_map, ◌==◌, ◌&&◌, if◌then◌else◌}
use Rattle.std.specs.BTreeMap.{BTreeMap, get, is_at}
use Rattle.std.specs.BTreeSet.{BTreeSet, contains}
use Rattle.std.specs.List.{list_any, flat_map, AllByRecursion}
use Rattle.std.specs.List.Sorted.{IsStrictlySortedBy}
use Rattle.std.specs.Map.{keys_of, lookup}
use Rattle.std.specs.Ordering.{nat_cmp, is_eq}
use Rattle.std.specs.declared.cmp.Ordering.TheVariants.{Less}
use Rattle.std.proofs.lemmas.Bool.Decides.{nat_tests}
use Rattle.amqp_model.specs.declared.state.DeliveryState.{DeliveryState}
use Rattle.book_model.specs.declared.act.Act.{Act}
use Rattle.book_model.specs.declared.act.Act.TheVariants.{Forget}
use Rattle.book_model.specs.declared.act.Decision.{Decision}
use Rattle.book_model.specs.declared.row.Row.{Row}
use Rattle.book_model.specs.declared.row.RowNumber.{RowNumber}
use Rattle.book_model.specs.Book.{BookView, row_at, is_undecided}
use Rattle.book_core.specs.Rising.{Rises, AllAbove}
use Rattle.journal_store.specs.Acting.{outcome_for, is_among, decide_row, forget_row, decision, decides, forgets}
use Rattle.journal_store.specs.Settling.{found_decision, found_forgotten}
use Rattle.journal_store.proofs.Merging.{number_of_row, listed, as_lists, same_lists, by_entry, at_row, merged}

-- Keys that ascend rise.
key_above : (n m : ℕ) → nat_cmp n m ≡ Less → n < m
key_above n m h = grind (arith, nat_tests)

same_test : (n m : ℕ) → is_eq (nat_cmp n m) ≡ (m == n)
same_test n m = grind (arith, nat_tests)

keys_above : (n : ℕ) (ks : List ℕ) → AllByRecursion (λ y. nat_cmp n y ≡ Less) ks → AllAbove (λ (k : ℕ). k) n ks
keys_above n [] all = tt
keys_above n (k ∷ ks) all = (key_above n k all.0, keys_above n ks all.1)

keys_rise : (ks : List ℕ) → IsStrictlySortedBy nat_cmp ks → Rises (λ (k : ℕ). k) ks
unfolding IsStrictlySortedBy
keys_rise [] up = tt
keys_rise (k ∷ ks) up = (keys_above k ks up.0, keys_rise ks up.1)

module _ {V : Type 0} where
  abbrev pub number_of_entry : ℕ × V → ℕ
  number_of_entry e = e.0

  entries_above : (n : ℕ) (es : List (ℕ × V)) → AllByRecursion (λ y. nat_cmp n y ≡ Less) (keys_of es) → AllAbove number_of_entry n es
  entries_above n [] all = tt
  entries_above n (e ∷ es) all = (key_above n e.0 all.0, entries_above n es all.1)

  entries_rise : (es : List (ℕ × V)) → IsStrictlySortedBy nat_cmp (keys_of es) → Rises number_of_entry es
  unfolding IsStrictlySortedBy
  entries_rise [] up = tt
  entries_rise (e ∷ es) up = (entries_above e.0 es up.0, entries_rise es up.1)

  -- the value of the entry that is found
  entry_found : (n : ℕ) (es : List (ℕ × V)) → option_map (λ (e : ℕ × V). e.1) (find (λ e. number_of_entry e == n) es) ≡ lookup (is_at (nat_cmp n)) es
  entry_found n [] = refl
  entry_found n (e ∷ es) = rw (same_test n e.0) (by_bool (e.0 == n) (entry_found n es))
    where
      by_bool : (b : Bool) → option_map (λ (e : ℕ × V). e.1) (find (λ e. number_of_entry e == n) es) ≡ lookup (is_at (nat_cmp n)) es
          → option_map (λ (e : ℕ × V). e.1) (cond b (Some e) (find (λ e. number_of_entry e == n) es)) ≡ cond b (Some e.1) (lookup (is_at (nat_cmp n)) es)
      by_bool true rest = refl
      by_bool false rest = rest

-- Decisions.
abbrev decides_entry : ℕ × DeliveryState → Row → List Act
decides_entry e r = found_decision e.1 (Some r)

abbrev by_outcome : Option DeliveryState → Row → List Act
by_outcome None r = []
by_outcome (Some outcome) r = found_decision outcome (Some r)

entry_outcome : (o : Option (ℕ × DeliveryState)) (r : Row) → by_entry number_of_entry decides_entry o r ≡ by_outcome (option_map (λ (e : ℕ × DeliveryState). e.1) o) r
entry_outcome None r = refl
entry_outcome (Some e) r = refl

row_outcome : (o : Option DeliveryState) (r : Row) → by_outcome o r ≡ listed (if is_undecided r then decision r o else None)
row_outcome None r = by_bool (is_undecided r)
  where
    by_bool : (b : Bool) → [] ≡ listed {A = Act} (if b then None else None)
    by_bool true = refl
    by_bool false = refl
row_outcome (Some outcome) r = by_bool (is_undecided r)
  where
    by_bool : (b : Bool) → (if b then listed (decision r (Some outcome)) else []) ≡ listed (if b then decision r (Some outcome) else None)
    by_bool true = refl
    by_bool false = refl

pub decisions_found : (m : BTreeMap ℕ DeliveryState) (ds : List Decision) (b : BookView) → IsStrictlySortedBy nat_cmp (keys_of m.entries)
    → ((n : ℕ) → get nat_cmp m n ≡ outcome_for n ds) → Rises number_of_row b.rows
    → flat_map (λ (e : ℕ × DeliveryState). found_decision e.1 (row_at e.0 b.rows)) m.entries ≡ decides b ds
decisions_found m ds b up named rise =
    same_lists (λ (e : ℕ × DeliveryState). found_decision e.1 (row_at e.0 b.rows)) (λ e. at_row number_of_entry decides_entry e (row_at (number_of_entry e) b.rows)) (λ e. at_each e (row_at e.0 b.rows)) m.entries
    ∙ merged number_of_entry decides_entry m.entries b.rows (entries_rise m.entries up) rise
    ∙ same_lists (λ r. by_entry number_of_entry decides_entry (find (λ e. number_of_entry e == number_of_row r) m.entries) r) (λ r. listed (decide_row ds r))
    (λ r. entry_outcome (find (λ e. number_of_entry e == number_of_row r) m.entries) r
    ∙ ap (λ (o : Option DeliveryState). by_outcome o r) (entry_found (number_of_row r) m.entries ∙ named (number_of_row r))
    ∙ row_outcome (outcome_for (number_of_row r) ds) r) b.rows
    ∙ as_lists (decide_row ds) b.rows
  where
    at_each : (e : ℕ × DeliveryState) (o : Option Row) → found_decision e.1 o ≡ at_row number_of_entry decides_entry e o
    at_each e None = refl
    at_each e (Some r) = refl

-- What is forgotten.
abbrev forgets_key : ℕ → Row → List Act
forgets_key k r = found_forgotten (Some r)

abbrev number_of_key : ℕ → ℕ
number_of_key k = k

key_found : (n : ℕ) (ks : List ℕ) → is_some (find (λ k. number_of_key k == n) ks) ≡ list_any (is_at (nat_cmp n)) ks
key_found n [] = refl
key_found n (k ∷ ks) = rw (same_test n k) (by_bool (k == n) (key_found n ks))
  where
    by_bool : (b : Bool) → is_some (find (λ k. number_of_key k == n) ks) ≡ list_any (is_at (nat_cmp n)) ks
        → is_some (cond b (Some k) (find (λ k. number_of_key k == n) ks)) ≡ (b || list_any (is_at (nat_cmp n)) ks)
    by_bool true rest = refl
    by_bool false rest = rest

abbrev by_member : Bool → Row → List Act
by_member b r = if b then found_forgotten (Some r) else []

key_member : (o : Option ℕ) (r : Row) → by_entry number_of_key forgets_key o r ≡ by_member (is_some o) r
key_member None r = refl
key_member (Some k) r = refl

row_member : (b : Bool) (numbers : List RowNumber) (r : Row) → b ≡ is_among r.number.0 numbers → by_member b r ≡ listed (forget_row numbers r)
row_member b numbers r is = rw (← is) (by_both b r.forgotten)
  where
    by_both : (b f : Bool) → (if b then (if f then [] else Forget r.number ∷ []) else []) ≡ listed (if not f && b then Some (Forget r.number) else None)
    by_both true true = refl
    by_both true false = refl
    by_both false true = refl
    by_both false false = refl

pub forgotten_found : (s : BTreeSet ℕ) (numbers : List RowNumber) (b : BookView) → IsStrictlySortedBy nat_cmp s.keys
    → ((n : ℕ) → contains nat_cmp s n ≡ is_among n numbers) → Rises number_of_row b.rows
    → flat_map (λ (k : ℕ). found_forgotten (row_at k b.rows)) s.keys ≡ forgets b numbers
forgotten_found s numbers b up named rise =
    same_lists (λ (k : ℕ). found_forgotten (row_at k b.rows)) (λ k. at_row number_of_key forgets_key k (row_at (number_of_key k) b.rows)) (λ k. at_each k (row_at k b.rows)) s.keys
    ∙ merged number_of_key forgets_key s.keys b.rows (keys_rise s.keys up) rise
    ∙ same_lists (λ r. by_entry number_of_key forgets_key (find (λ k. number_of_key k == number_of_row r) s.keys) r) (λ r. listed (forget_row numbers r))
    (λ r. key_member (find (λ k. number_of_key k == number_of_row r) s.keys) r
    ∙ row_member (is_some (find (λ k. number_of_key k == number_of_row r) s.keys)) numbers r (key_found (number_of_row r) s.keys ∙ named (number_of_row r))) b.rows
    ∙ as_lists (forget_row numbers) b.rows
  where
    at_each : (k : ℕ) (o : Option Row) → found_forgotten o ≡ at_row number_of_key forgets_key k o
    at_each k None = refl
    at_each k (Some r) = refl
