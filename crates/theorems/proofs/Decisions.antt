-- What an event decides and forgets of rows is what its changes make of their deliveries.
use Rattle.std.proofs.Common.{◌≡◌, ◌∙◌, sym, ap, refl, subst, ℕ, zero, suc, ◌+◌, ◌-◌, ◌≤◌, ◌<◌, Bool, true, false, ◌||◌, List, [], ◌∷◌, ◌++◌, ◌⊎◌, inl, inr, arith}
use Rattle.std.specs.Prelude.{◌==◌, Option, Some, None, map, filter, option_map, if◌then◌else◌}
use Rattle.std.proofs.lemmas.Bool.{eqb-true}
use Rattle.std.proofs.lemmas.Bool.Decides.{nat_tests}
use Rattle.amqp_model.specs.declared.perf.Disposition.{Disposition as ADisposition}
use Rattle.amqp_model.specs.declared.perf.Role.{Role}
use Rattle.amqp_model.specs.declared.perf.Role.TheVariants.{Sender, Receiver}
use Rattle.amqp_model.specs.declared.state.DeliveryState.{DeliveryState}
use Rattle.book_model.specs.declared.act.Decision.{Decision}
use Rattle.book_model.specs.declared.row.Row.{Row as ARow}
use Rattle.book_model.specs.declared.row.RowNumber.{RowNumber}
use Rattle.book_model.specs.Book.{row_at}
use Rattle.book_core.specs.Rising.{Rises, AllAbove}
use Rattle.gate_journal.specs.Ordered.{number_of_row}
use Rattle.journal_store.specs.Acting.{outcome_for, is_among}
use Rattle.router_trace.specs.declared.binding.DeliveryName.{DeliveryName}
use Rattle.router_trace.specs.declared.binding.DeliveryName.TheVariants.{Row, Counter}
use Rattle.router_trace.specs.declared.binding.Origin.{Origin}
use Rattle.router_trace.specs.Trace.{Trace}
use Rattle.router_trace.specs.DeliveryFrames.{kept_outcome}
use Rattle.router_trace.specs.Deliveries.{Delivery, source, bindings, number_named, delivery, is_undecided, untold, last_of}
use Rattle.state_deliveries.specs.declared.change.Change.{Change}
use Rattle.state_deliveries.specs.declared.change.Change.TheVariants as change
use Rattle.state_deliveries.specs.Deciding.{gathered_below, changed_by, row_of, outcome_of_row, outcome_of, decision_of, decided_rows}
use Rattle.state_deliveries.specs.Hearing.{disposed_change}
use Rattle.state_deliveries.specs.Stepping.{comes_with_id, changed}
use Rattle.state_deliveries.proofs.Called.{there_named}
use Rattle.reply_rows.specs.Deciding.{listed, as_kept}
use Rattle.theorems.proofs.Bindings.{there_bound}
use Rattle.theorems.proofs.Changing.{leaves_by}
use Rattle.theorems.proofs.Looking.{by_case, none_above}
use Rattle.theorems.proofs.Tests.{some_same, none_not_some}

clash : false ≡ true → ⊥
clash e = cc

-- what lists of decisions say of a row

skip_first : (n : ℕ) (ds es : List Decision) → outcome_for n ds ≡ None → outcome_for n (ds ++ es) ≡ outcome_for n es
skip_first n [] es none = refl
skip_first n (d ∷ ds) es none =
    by_case (d.row.0 == n)
    (λ e. absurd (let is : Some d.outcome ≡ None = rw e at none in cc))
    (λ e. rw e (skip_first n ds es (rw e at none)))

skip_rest : (n : ℕ) (ds es : List Decision) → outcome_for n es ≡ None → outcome_for n (ds ++ es) ≡ outcome_for n ds
skip_rest n [] es none = none
skip_rest n (d ∷ ds) es none = by (d.row.0 == n) (skip_rest n ds es none)
  where
    by : (b : Bool) → outcome_for n (ds ++ es) ≡ outcome_for n ds → (if b then Some d.outcome else outcome_for n (ds ++ es)) ≡ (if b then Some d.outcome else outcome_for n ds)
    by true rest = refl
    by false rest = rest

kept_for : (n : ℕ) (ds : List Decision) → outcome_for n (map as_kept ds) ≡ option_map kept_outcome (outcome_for n ds)
kept_for n [] = refl
kept_for n (d ∷ ds) = by (d.row.0 == n) (kept_for n ds)
  where
    by : (b : Bool) → outcome_for n (map as_kept ds) ≡ option_map kept_outcome (outcome_for n ds)
        → (if b then Some (kept_outcome d.outcome) else outcome_for n (map as_kept ds)) ≡ option_map kept_outcome (if b then Some d.outcome else outcome_for n ds)
    by true rest = refl
    by false rest = rest

gathered_none : (k : ℕ) (g : ℕ → List Decision) (r : ℕ) → ((m : ℕ) → m < k → outcome_for r (g m) ≡ None) → outcome_for r (gathered_below k g) ≡ None
unfolding gathered_below
gathered_none zero g r none = refl
gathered_none (suc k) g r none =
    skip_first r (gathered_below k g) (g k) (gathered_none k g r (λ m low. none m (more m k low))) ∙ none k (last k)
  where
    more : (m k : ℕ) → m < k → m < suc k
    more m k low = omega (arith, low)

    last : (k : ℕ) → k < suc k
    last k = omega arith

gathered_one : (k n : ℕ) (g : ℕ → List Decision) (r : ℕ) → n < k → ((m : ℕ) → (m ≡ n → ⊥) → outcome_for r (g m) ≡ None) → outcome_for r (gathered_below k g) ≡ outcome_for r (g n)
unfolding gathered_below
gathered_one zero n g r low none = absurd (never n low)
  where
    never : (n : ℕ) → n < 0 → ⊥
    never n low = omega (arith, low)
gathered_one (suc k) n g r low none =
    by_case (k == n)
    (λ e. let same : k ≡ n = eqb-true k n e in
    skip_first r (gathered_below k g) (g k) (gathered_none k g r (λ m less. none m (lower m k n less same))) ∙ ap (λ (j : ℕ). outcome_for r (g j)) same)
    (λ e. skip_rest r (gathered_below k g) (g k) (none k (apart k n e)) ∙ gathered_one k n g r (under k n low e) none)
  where
    lower : (m k n : ℕ) → m < k → k ≡ n → m ≡ n → ⊥
    lower m k n less same is = omega (arith, less, same, is)

    apart : (k n : ℕ) → (k == n) ≡ false → k ≡ n → ⊥
    apart k n e is = grind (arith, nat_tests)

    under : (k n : ℕ) → n < suc k → (k == n) ≡ false → n < k
    under k n low e = by (apart k n e) low
      where
        by : (k ≡ n → ⊥) → n < suc k → n < k
        by differ low = omega (arith, differ, low)

-- rows by their names

row_same : (q r : RowNumber) → (q.0 == r.0) ≡ true → q ≡ r
row_same q r e = let is : q.0 ≡ r.0 = eqb-true q.0 r.0 e in λ i. record { 0 = is i }

one_delivery : (t : Trace) (n m : ℕ) (d e : Delivery) (q r : RowNumber) → delivery t n ≡ Some d → d.name ≡ Row r → delivery t m ≡ Some e → e.name ≡ Row q → (q.0 == r.0) ≡ true → m ≡ n
one_delivery t n m d e q r there name here called same =
    some_same (sym (there_named t m e here) ∙ ap (number_named t) (called ∙ ap (λ (x : RowNumber). Row x) (row_same q r same) ∙ sym name) ∙ there_named t n d there)

other_none : (t : Trace) (n m : ℕ) (d : Delivery) (r : RowNumber) (xs : List Change) → delivery t n ≡ Some d → d.name ≡ Row r → (m ≡ n → ⊥) → outcome_for r.0 (decision_of xs (delivery t m)) ≡ None
other_none t n m d r xs there name apart = by (delivery t m) refl
  where
    of_row : (e : Delivery) (q : RowNumber) (made : Option DeliveryState) → (q.0 == r.0) ≡ false → outcome_for r.0 (outcome_of_row q made) ≡ None
    of_row e q None differs = refl
    of_row e q (Some s) differs = rw differs refl

    of_name : (e : Delivery) (name : DeliveryName) (u : Bool) → e.name ≡ name → delivery t m ≡ Some e → outcome_for r.0 (outcome_of (if u then row_of name else None) (changed_by xs e).outcome) ≡ None
    of_name e (Counter k) true called here = refl
    of_name e (Counter k) false called here = refl
    of_name e (Row q) false called here = refl
    of_name e (Row q) true called here =
        by_case (q.0 == r.0)
        (λ f. absurd (apart (one_delivery t n m d e q r there name here called f)))
        (λ f. of_row e q (changed_by xs e).outcome f)

    by : (v : Option Delivery) → delivery t m ≡ v → outcome_for r.0 (decision_of xs v) ≡ None
    by None here = refl
    by (Some e) here = of_name e e.name (is_undecided e) refl here

own_decision : (d : Delivery) (r : RowNumber) (xs : List Change) → d.name ≡ Row r → outcome_for r.0 (decision_of xs (Some d)) ≡ (if is_undecided d then (changed_by xs d).outcome else None)
own_decision d r xs name =
    ap (λ (x : DeliveryName). outcome_for r.0 (outcome_of (if is_undecided d then row_of x else None) (changed_by xs d).outcome)) name ∙ by (is_undecided d) (changed_by xs d).outcome
  where
    itself : (n : ℕ) → (n == n) ≡ true
    itself n = grind (arith, nat_tests)

    by : (u : Bool) (made : Option DeliveryState) → outcome_for r.0 (outcome_of (if u then Some r else None) made) ≡ (if u then made else None)
    by true None = refl
    by true (Some s) = rw (itself r.0) refl
    by false made = refl

pub decided_of : (t : Trace) (n : ℕ) (d : Delivery) (r : RowNumber) (xs : List Change) → delivery t n ≡ Some d → d.name ≡ Row r
    → outcome_for r.0 (map as_kept (decided_rows t xs)) ≡ option_map kept_outcome (if is_undecided d then (changed_by xs d).outcome else None)
decided_of t n d r xs there name =
    kept_for r.0 (decided_rows t xs)
    ∙ ap (option_map kept_outcome)
    (gathered_one (bindings t + 1) n (λ m. decision_of xs (delivery t m)) r.0 (under n (bindings t) (there_bound t n d there)) (λ m apart. other_none t n m d r xs there name apart)
    ∙ ap (λ (v : Option Delivery). outcome_for r.0 (decision_of xs v)) there
    ∙ own_decision d r xs name)
  where
    under : (n k : ℕ) → n ≤ k → n < k + 1
    under n k low = omega (arith, low)

-- a row whose deliveries they leave undecided
pub undecided_of : (t : Trace) (r : RowNumber) (xs : List Change)
    → ((n : ℕ) (d : Delivery) → delivery t n ≡ Some d → d.name ≡ Row r → is_undecided d ≡ true → (changed_by xs d).outcome ≡ None)
    → outcome_for r.0 (map as_kept (decided_rows t xs)) ≡ None
undecided_of t r xs each =
    kept_for r.0 (decided_rows t xs) ∙ ap (option_map kept_outcome) (gathered_none (bindings t + 1) (λ m. decision_of xs (delivery t m)) r.0 (λ m low. one m (delivery t m) refl))
  where
    made : (q : RowNumber) (o : Option DeliveryState) → o ≡ None → outcome_for r.0 (outcome_of_row q o) ≡ None
    made q None none = refl
    made q (Some s) none = absurd (none_not_some (sym none))

    other : (q : RowNumber) (o : Option DeliveryState) → (q.0 == r.0) ≡ false → outcome_for r.0 (outcome_of_row q o) ≡ None
    other q None differs = refl
    other q (Some s) differs = rw differs refl

    of_name : (m : ℕ) (e : Delivery) (name : DeliveryName) (u : Bool) → delivery t m ≡ Some e → e.name ≡ name → is_undecided e ≡ u
        → outcome_for r.0 (outcome_of (if u then row_of name else None) (changed_by xs e).outcome) ≡ None
    of_name m e (Counter k) true here called open_one = refl
    of_name m e (Counter k) false here called open_one = refl
    of_name m e (Row q) false here called open_one = refl
    of_name m e (Row q) true here called open_one =
        by_case (q.0 == r.0)
        (λ f. made q (changed_by xs e).outcome (each m e here (called ∙ ap (λ (x : RowNumber). Row x) (row_same q r f)) open_one))
        (λ f. other q (changed_by xs e).outcome f)

    one : (m : ℕ) (v : Option Delivery) → delivery t m ≡ v → outcome_for r.0 (decision_of xs v) ≡ None
    one m None here = refl
    one m (Some e) here = of_name m e e.name (is_undecided e) here refl refl

-- what two lists of decisions say of a row
pub first_for : (n : ℕ) (ds es : List Decision) → outcome_for n ds ≡ None → outcome_for n (ds ++ es) ≡ outcome_for n es
first_for n ds es none = skip_first n ds es none

pub none_for : (n : ℕ) (ds es : List Decision) → outcome_for n (ds ++ es) ≡ None → outcome_for n ds ≡ None
none_for n [] es none = refl
none_for n (d ∷ ds) es none = by (d.row.0 == n) none (none_for n ds es)
  where
    by : (b : Bool) → (if b then Some d.outcome else outcome_for n (ds ++ es)) ≡ None → (outcome_for n (ds ++ es) ≡ None → outcome_for n ds ≡ None)
        → (if b then Some d.outcome else outcome_for n ds) ≡ None
    by true is rest = absurd (none_not_some (sym is))
    by false is rest = rest is

pub either_for : (n : ℕ) (ds es : List Decision) (s : DeliveryState) → outcome_for n (ds ++ es) ≡ Some s → (outcome_for n ds ≡ Some s) ⊎ (outcome_for n es ≡ Some s)
either_for n [] es s is = inr is
either_for n (d ∷ ds) es s is = by (d.row.0 == n) is (either_for n ds es s)
  where
    by : (b : Bool) → (if b then Some d.outcome else outcome_for n (ds ++ es)) ≡ Some s → (outcome_for n (ds ++ es) ≡ Some s → (outcome_for n ds ≡ Some s) ⊎ (outcome_for n es ≡ Some s))
        → ((if b then Some d.outcome else outcome_for n ds) ≡ Some s) ⊎ (outcome_for n es ≡ Some s)
    by true is rest = inl is
    by false is rest = rest is

-- numbers among others

pub among_more : (n : ℕ) (xs ys : List RowNumber) → is_among n (xs ++ ys) ≡ (is_among n xs || is_among n ys)
among_more n [] ys = refl
among_more n (x ∷ xs) ys = by (x.0 == n) (among_more n xs ys)
  where
    by : (b : Bool) → is_among n (xs ++ ys) ≡ (is_among n xs || is_among n ys) → (b || is_among n (xs ++ ys)) ≡ ((b || is_among n xs) || is_among n ys)
    by true rest = refl
    by false rest = rest

-- of a delivery whose id is in the range of a disposition that settles nothing is to be told
pub untold_is_done : (d : Delivery) (c own : ℕ) (x : ADisposition) (more : List Change) → x.settled ≡ true → comes_with_id (source d) c own x.first (last_of x) ≡ true
    → (p : Origin) → source (changed_by (listed (disposed_change Sender c (Some own) x) ++ more) d) ≡ Some p → ⊥
untold_is_done d c own x more settled comes p from = by x.settled settled from
  where
    undone : (b : Bool) → b ≡ true → (q : Origin) → source (if b then untold d else d) ≡ Some q → ⊥
    undone true e q from = none_not_some from
    undone false e q from = clash e

    by : (s : Bool) → s ≡ true → source (changed_by (listed (if s then Some (change.Untold c own x.first (last_of x)) else None) ++ more) d) ≡ Some p → ⊥
    by false e from = clash e
    by true e from =
        undone (comes_with_id (source d) c own x.first (last_of x)) comes p
        ((leaves_by more (changed (change.Untold c own x.first (last_of x)) d)).comes p from)

-- the rows of a producer

pub among_rows : (n : ℕ) (passes : ARow → Bool) (rs : List ARow) → Rises number_of_row rs → is_among n (map (λ (r : ARow). r.number) (filter passes rs)) ≡ true
    → (row : ARow) × (row_at n rs ≡ Some row) × (passes row ≡ true)
among_rows n passes [] up is = absurd (clash is)
among_rows n passes (r ∷ rs) up is = by (passes r) refl is (among_rows n passes rs up.1)
  where
    Later : Type 0
    Later = is_among n (map (λ (r : ARow). r.number) (filter passes rs)) ≡ true → (row : ARow) × (row_at n rs ≡ Some row) × (passes row ≡ true)

    first_or : (b : Bool) → (r.number.0 == n) ≡ b → passes r ≡ true → (b || is_among n (map (λ (r : ARow). r.number) (filter passes rs))) ≡ true → Later
        → (row : ARow) × (row_at n (r ∷ rs) ≡ Some row) × (passes row ≡ true)
    first_or true e passed h rest = (r, rw e refl, passed)
    first_or false e passed h rest = let later = rest h in (later.0, rw e later.1, later.2)

    apart : (row : ARow) → row_at n rs ≡ Some row → (r.number.0 == n) ≡ false
    apart row found = test (r.number.0 == n) refl
      where
        test : (b : Bool) → (r.number.0 == n) ≡ b → b ≡ false
        test false e = refl
        test true e =
            let none : row_at n rs ≡ None = none_above n rs (let P : ℕ → Type 0 = λ m. AllAbove number_of_row m rs in subst P (eqb-true r.number.0 n e) up.0) in
            absurd (none_not_some (sym none ∙ found))

    by : (b : Bool) → passes r ≡ b → is_among n (map (λ (r : ARow). r.number) (if b then r ∷ filter passes rs else filter passes rs)) ≡ true → Later
        → (row : ARow) × (row_at n (r ∷ rs) ≡ Some row) × (passes row ≡ true)
    by true passed h rest = first_or (r.number.0 == n) refl passed h rest
    by false passed h rest = let later = rest h in (later.0, rw (apart later.0 later.1) later.1, later.2)
