-- Which rows still keep their terminus after an event's decisions and what it forgets.
use Rattle.std.proofs.Common.{◌≡◌, ◌∙◌, sym, ap, refl, ℕ, ◌&&◌, ◌||◌, Bool, true, false, cond, not, List, [], ◌∷◌, Option, Some, None}
use Rattle.std.specs.Prelude.{filter, filter_map, is_none, is_some, if◌then◌else◌}
use Rattle.std.specs.List.{cons_option, list_any}
use Rattle.amqp_model.specs.declared.state.DeliveryState.{DeliveryState}
use Rattle.book_model.specs.declared.act.Decision.{Decision}
use Rattle.book_model.specs.declared.fault.BookFault.TheVariants.{NoTerminus}
use Rattle.book_model.specs.declared.row.Row.{Row}
use Rattle.book_model.specs.declared.row.RowNumber.{RowNumber}
use Rattle.book_model.specs.declared.terminus.LinkRole.{LinkRole}
use Rattle.book_model.specs.declared.terminus.LinkRole.TheVariants.{Producer, Consumer}
use Rattle.book_model.specs.declared.terminus.Terminus.{Terminus}
use Rattle.book_model.specs.Book.{unless, drop_refusal, is_from, is_for, is_of, is_undecided, keeps, forgotten}
use Rattle.journal_store.specs.Acting.{outcome_for, is_among, journal_outcome, decided_to, decided_by, forgotten_by, rows_after}
use Rattle.journal_store.specs.Settling.{keeps_after, lets_go_by}
use Rattle.journal_store.proofs.Merging.{number_of_row}

module _ {V : Type 0} where
  -- whether what is left of a value passes
  abbrev pub passes : (V → Bool) → Option V → Bool
  passes p None = false
  passes p (Some v) = p v

  any_left : (p : V → Bool) (f : V → Option V) (vs : List V) → list_any p (filter_map f vs) ≡ list_any (λ v. passes p (f v)) vs
  any_left p f [] = refl
  any_left p f (v ∷ vs) = by_value (f v) (any_left p f vs)
    where
      by_value : (o : Option V) → list_any p (filter_map f vs) ≡ list_any (λ v. passes p (f v)) vs → list_any p (cons_option o (filter_map f vs)) ≡ (passes p o || list_any (λ v. passes p (f v)) vs)
      by_value None rest = rest
      by_value (Some w) rest = ap (λ b. p w || b) rest

  same_any : (p q : V → Bool) → ((v : V) → p v ≡ q v) → (vs : List V) → list_any p vs ≡ list_any q vs
  same_any p q same [] = refl
  same_any p q same (v ∷ vs) = rw (same v, same_any p q same vs) refl

  -- those that a walk leaves out don't pass
  pub any_walked : (p q : V → Bool) → ((v : V) → q v ≡ false → p v ≡ false) → (vs : List V) → list_any p (filter q vs) ≡ list_any p vs
  any_walked p q out [] = refl
  any_walked p q out (v ∷ vs) = by_test (q v) refl (any_walked p q out vs)
    where
      by_test : (b : Bool) → q v ≡ b → list_any p (filter q vs) ≡ list_any p vs → list_any p (cond b (v ∷ filter q vs) (filter q vs)) ≡ (p v || list_any p vs)
      by_test true is rest = ap (λ b. p v || b) rest
      by_test false is rest = rw (out v is) rest

-- One row.
not_both : (b : Bool) → (b && false) ≡ false
not_both true = refl
not_both false = refl

both : (b : Bool) → (b && true) ≡ b
both true = refl
both false = refl

abbrev forgotten_if : Bool → Row → Option Row
forgotten_if t r = if t then forgotten r else Some r

forgotten_producer : (numbers : List RowNumber) (n : ℕ) (r : Row) → passes (keeps Producer n) (forgotten_by numbers r) ≡ (keeps Producer n r && not (is_among (number_of_row r) numbers))
forgotten_producer numbers n r = by_both r.forgotten refl (is_among (number_of_row r) numbers)
  where
    by_outcome : (d : Bool) → passes (keeps Producer n) (if d then None else Some (record r { forgotten = true })) ≡ false
    by_outcome true = refl
    by_outcome false = not_both (is_from n r)

    by_both : (f : Bool) → r.forgotten ≡ f → (m : Bool) → passes (keeps Producer n) (forgotten_if (not f && m) r) ≡ (keeps Producer n r && not m)
    by_both true is m =
        let no : keeps Producer n r ≡ false = ap (λ b. is_from n r && not b) is ∙ not_both (is_from n r) in
        no ∙ sym (ap (λ b. b && not m) no)
    by_both false is false = sym (both (keeps Producer n r))
    by_both false is true = by_outcome (is_some r.outcome) ∙ sym (not_both (keeps Producer n r))

forgotten_consumer : (numbers : List RowNumber) (n : ℕ) (r : Row) → passes (keeps Consumer n) (forgotten_by numbers r) ≡ keeps Consumer n r
forgotten_consumer numbers n r = by_test (not r.forgotten && is_among (number_of_row r) numbers)
  where
    by_outcome : (o : Option DeliveryState) → r.outcome ≡ o → passes (keeps Consumer n) (if is_some o then None else Some (record r { forgotten = true })) ≡ keeps Consumer n r
    by_outcome None is = refl
    by_outcome (Some outcome) is = sym (ap (λ (o : Option DeliveryState). is_for n r && is_none o) is ∙ not_both (is_for n r))

    by_test : (t : Bool) → passes (keeps Consumer n) (forgotten_if t r) ≡ keeps Consumer n r
    by_test true = by_outcome r.outcome refl
    by_test false = refl

same_passes : {V : Type 0} (p q : V → Bool) → ((v : V) → p v ≡ q v) → (o : Option V) → passes p o ≡ passes q o
same_passes p q same None = refl
same_passes p q same (Some v) = same v

abbrev decided_if : Bool → Option DeliveryState → Row → Option Row
decided_if u o r = if u then decided_to o r else Some r

decided_producer : (ds : List Decision) (numbers : List RowNumber) (n : ℕ) (r : Row)
    → passes (λ s. keeps Producer n s && not (is_among (number_of_row s) numbers)) (decided_by ds r) ≡ keeps_after ds numbers Producer n r
decided_producer ds numbers n r = by_both (is_undecided r) (outcome_for (number_of_row r) ds)
  where
    by_forgotten : (x : DeliveryState) (f : Bool) → r.forgotten ≡ f
        → passes (λ s. keeps Producer n s && not (is_among (number_of_row s) numbers)) (if f then None else Some (record r { outcome = Some x })) ≡ keeps_after ds numbers Producer n r
    by_forgotten x true is = sym (ap (λ b. (is_from n r && not b) && not (is_among (number_of_row r) numbers)) is ∙ ap (λ b. b && not (is_among (number_of_row r) numbers)) (not_both (is_from n r)))
    by_forgotten x false is = refl

    by_both : (u : Bool) (o : Option DeliveryState) → passes (λ s. keeps Producer n s && not (is_among (number_of_row s) numbers)) (decided_if u o r) ≡ keeps_after ds numbers Producer n r
    by_both false o = refl
    by_both true None = refl
    by_both true (Some outcome) = by_forgotten (journal_outcome outcome) r.forgotten refl

decided_consumer : (ds : List Decision) (numbers : List RowNumber) (n : ℕ) (r : Row) → passes (keeps Consumer n) (decided_by ds r) ≡ keeps_after ds numbers Consumer n r
decided_consumer ds numbers n r = by_both (is_undecided r) refl (outcome_for (number_of_row r) ds)
  where
    by_forgotten : (x : DeliveryState) (f : Bool) → passes (keeps Consumer n) (if f then None else Some (record r { outcome = Some x })) ≡ false
    by_forgotten x true = refl
    by_forgotten x false = not_both (is_for n r)

    by_both : (u : Bool) → is_undecided r ≡ u → (o : Option DeliveryState) → passes (keeps Consumer n) (decided_if u o r) ≡ (keeps Consumer n r && is_none o)
    by_both false is o =
        let no : keeps Consumer n r ≡ false = ap (λ b. is_for n r && b) is ∙ not_both (is_for n r) in
        no ∙ sym (ap (λ b. b && is_none o) no)
    by_both true is None = sym (both (keeps Consumer n r))
    by_both true is (Some outcome) = by_forgotten (journal_outcome outcome) r.forgotten ∙ sym (not_both (keeps Consumer n r))

abbrev left_behind : List Decision → List RowNumber → LinkRole → ℕ → Row → Bool
left_behind ds numbers role n r = passes (λ s. passes (keeps role n) (forgotten_by numbers s)) (decided_by ds r)

kept : (ds : List Decision) (numbers : List RowNumber) (role : LinkRole) (n : ℕ) (r : Row) → left_behind ds numbers role n r ≡ keeps_after ds numbers role n r
kept ds numbers Producer n r =
    same_passes (λ s. passes (keeps Producer n) (forgotten_by numbers s)) (λ s. keeps Producer n s && not (is_among (number_of_row s) numbers)) (forgotten_producer numbers n) (decided_by ds r)
    ∙ decided_producer ds numbers n r
kept ds numbers Consumer n r =
    same_passes (λ s. passes (keeps Consumer n) (forgotten_by numbers s)) (keeps Consumer n) (forgotten_consumer numbers n) (decided_by ds r)
    ∙ decided_consumer ds numbers n r

any_after : (ds : List Decision) (numbers : List RowNumber) (role : LinkRole) (n : ℕ) (rs : List Row) → list_any (keeps role n) (rows_after ds numbers rs) ≡ list_any (keeps_after ds numbers role n) rs
any_after ds numbers role n rs =
    any_left (keeps role n) (forgotten_by numbers) (filter_map (decided_by ds) rs)
    ∙ any_left (λ s. passes (keeps role n) (forgotten_by numbers s)) (decided_by ds) rs
    ∙ same_any (left_behind ds numbers role n) (keeps_after ds numbers role n) (kept ds numbers role n) rs

-- the test by the rows of the book says what the book after them says
pub lets_go_as_after : (ds : List Decision) (numbers : List RowNumber) (rs : List Row) (o : Option Terminus) → lets_go_by rs ds numbers o ≡ is_none (drop_refusal o (rows_after ds numbers rs))
lets_go_as_after ds numbers rs None = refl
lets_go_as_after ds numbers rs (Some t) =
    ap not (sym (any_after ds numbers t.key.role t.number.0 rs)) ∙ by_any (list_any (keeps t.key.role t.number.0) (rows_after ds numbers rs))
  where
    by_any : (b : Bool) → not b ≡ is_none (unless (not b) NoTerminus None)
    by_any true = refl
    by_any false = refl

-- a row that still keeps a terminus is one of that terminus
walked : (ds : List Decision) (numbers : List RowNumber) (role : LinkRole) (n : ℕ) (r : Row) → is_of n r ≡ false → keeps_after ds numbers role n r ≡ false
walked ds numbers Producer n r out = by_test (is_from n r) out
  where
    by_test : (k : Bool) → (k || is_for n r) ≡ false → (k && not r.forgotten && not (is_among (number_of_row r) numbers)) ≡ false
    by_test true e = absurd cc
    by_test false e = refl
walked ds numbers Consumer n r out = by_test (is_from n r) (is_for n r) out
  where
    by_test : (j k : Bool) → (j || k) ≡ false → (k && is_undecided r && is_none (outcome_for (number_of_row r) ds)) ≡ false
    by_test true k e = absurd cc
    by_test false true e = absurd cc
    by_test false false e = refl

pub any_of_terminus : (ds : List Decision) (numbers : List RowNumber) (role : LinkRole) (n : ℕ) (rs : List Row)
    → list_any (keeps_after ds numbers role n) (filter (is_of n) rs) ≡ list_any (keeps_after ds numbers role n) rs
any_of_terminus ds numbers role n rs = any_walked (keeps_after ds numbers role n) (is_of n) (walked ds numbers role n) rs
