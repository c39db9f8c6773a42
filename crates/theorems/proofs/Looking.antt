-- The row of a number in a book: what acts make of it.
use Rattle.std.proofs.Common.{◌≡◌, ◌∙◌, sym, ap, refl, subst, ℕ, ◌<◌, Bool, true, false, cond, List, [], ◌∷◌, ◌++◌, arith}
use Rattle.std.specs.Prelude.{◌==◌, Option, Some, None, filter_map, is_some, if◌then◌else◌}
use Rattle.std.specs.List.{cons_option}
use Rattle.std.specs.Option.{ForSome, option_and_then, option_or}
use Rattle.std.proofs.lemmas.Bool.Decides.{nat_tests}
use Rattle.std.proofs.lemmas.Bool.{eqb-true}
use Rattle.std.proofs.lemmas.List.Folds.{find-append}
use Rattle.amqp_model.specs.declared.state.DeliveryState.{DeliveryState}
use Rattle.book_model.specs.declared.row.Row.{Row}
use Rattle.book_model.specs.Book.{row_at, with_row, decided, forgotten}
use Rattle.book_core.specs.Rising.{Rises, AllAbove, AllBelow}
use Rattle.gate_journal.specs.Ordered.{number_of_row}

pub by_case : {P : Type 0} (b : Bool) → ((b ≡ true) → P) → ((b ≡ false) → P) → P
by_case true f g = f refl
by_case false f g = g refl

same_numbers : (a n : ℕ) → a ≡ n → (a == n) ≡ true
same_numbers a n e = grind (arith, nat_tests)

other_numbers : (a b n : ℕ) → a ≡ b → (b == n) ≡ false → (a == n) ≡ false
other_numbers a b n e h = subst (λ (k : ℕ). (k == n) ≡ false) (sym e) h

above_other : (a n : ℕ) → n < a → (a == n) ≡ false
above_other a n l = grind (arith, nat_tests)

below_other : (a n : ℕ) → a < n → (n == a) ≡ false
below_other a n l = grind (arith, nat_tests)

-- a row that is found has the number
pub found_number : (n : ℕ) (rs : List Row) (r : Row) → row_at n rs ≡ Some r → number_of_row r ≡ n
found_number n [] r is = absurd cc
found_number n (x ∷ rs) r is =
    by_case (number_of_row x == n)
    (λ e. let same : Some x ≡ Some r = rw e at is in ap number_of_row (sym (some_is same)) ∙ eqb-true (number_of_row x) n e)
    (λ e. found_number n rs r (rw e at is))
  where
    some_is : {a b : Row} → Some a ≡ Some b → a ≡ b
    some_is e = cc

-- none is found below all, or above all
pub none_above : (n : ℕ) (rs : List Row) → AllAbove number_of_row n rs → row_at n rs ≡ None
none_above n [] above = refl
none_above n (r ∷ rs) above = rw (above_other (number_of_row r) n above.0) (none_above n rs above.1)

pub none_below : (n : ℕ) (rs : List Row) → AllBelow number_of_row n rs → row_at n rs ≡ None
none_below n [] below = refl
none_below n (r ∷ rs) below = rw (lower (number_of_row r) n below.0) (none_below n rs below.1)
  where
    lower : (a n : ℕ) → a < n → (a == n) ≡ false
    lower a n l = grind (arith, nat_tests)

pub found_below : (n k : ℕ) (rs : List Row) (r : Row) → AllBelow number_of_row k rs → row_at n rs ≡ Some r → n < k
found_below n k [] r below is = absurd cc
found_below n k (x ∷ rs) r below is =
    by_case (number_of_row x == n) (λ e. here (number_of_row x) (eqb-true (number_of_row x) n e) below.0) (λ e. found_below n k rs r below.1 (rw e at is))
  where
    here : (a : ℕ) → a ≡ n → a < k → n < k
    here a e l = omega (arith, e, l)

-- rows that change, each keeping its number
abbrev pub KeepsNumber : Row → Option Row → Type 0
KeepsNumber r now = ForSome now (λ s. number_of_row s ≡ number_of_row r)

module _ (f : Row → Option Row) (same : (r : Row) → KeepsNumber r (f r)) where
  above_through : (n : ℕ) (rs : List Row) → AllAbove number_of_row n rs → row_at n (filter_map f rs) ≡ None
  above_through n [] above = refl
  above_through n (r ∷ rs) above = by_row (f r) (same r) (above_through n rs above.1)
    where
      by_row : (o : Option Row) → KeepsNumber r o → row_at n (filter_map f rs) ≡ None → row_at n (cons_option o (filter_map f rs)) ≡ None
      by_row None keeps rest = rest
      by_row (Some s) keeps rest = rw (other_numbers (number_of_row s) (number_of_row r) n (keeps s refl) (above_other (number_of_row r) n above.0)) rest

  pub found_through : (n : ℕ) (rs : List Row) → Rises number_of_row rs → row_at n (filter_map f rs) ≡ option_and_then f (row_at n rs)
  found_through n [] up = refl
  found_through n (r ∷ rs) up = by_case (number_of_row r == n) here (later (found_through n rs up.1))
    where
      here : (number_of_row r == n) ≡ true → row_at n (filter_map f (r ∷ rs)) ≡ option_and_then f (row_at n (r ∷ rs))
      here e = by_row (f r) refl (same r) ∙ sym (ap (λ (b : Bool). option_and_then f (cond b (Some r) (row_at n rs))) e)
        where
          is : number_of_row r ≡ n
          is = eqb-true (number_of_row r) n e

          none : row_at n (filter_map f rs) ≡ None
          none = above_through n rs (let P : ℕ → Type 0 = λ m. AllAbove number_of_row m rs in subst P is up.0)

          by_row : (o : Option Row) → f r ≡ o → KeepsNumber r o → row_at n (cons_option o (filter_map f rs)) ≡ f r
          by_row None made keeps = none ∙ sym made
          by_row (Some s) made keeps = rw (same_numbers (number_of_row s) n (keeps s refl ∙ is)) (sym made)

      later : row_at n (filter_map f rs) ≡ option_and_then f (row_at n rs) → (number_of_row r == n) ≡ false → row_at n (filter_map f (r ∷ rs)) ≡ option_and_then f (row_at n (r ∷ rs))
      later rest e = by_row (f r) (same r) rest ∙ sym (ap (λ (b : Bool). option_and_then f (cond b (Some r) (row_at n rs))) e)
        where
          by_row : (o : Option Row) → KeepsNumber r o → row_at n (filter_map f rs) ≡ option_and_then f (row_at n rs)
              → row_at n (cons_option o (filter_map f rs)) ≡ option_and_then f (row_at n rs)
          by_row None keeps rest = rest
          by_row (Some s) keeps rest = rw (other_numbers (number_of_row s) (number_of_row r) n (keeps s refl) e) rest

-- a row that is changed alone
abbrev one : ℕ → (Row → Option Row) → Row → Option Row
one m change r = if r.number.0 == m then change r else Some r

one_keeps : (m : ℕ) (change : Row → Option Row) → ((r : Row) → KeepsNumber r (change r)) → (r : Row) → KeepsNumber r (one m change r)
one_keeps m change keeps r = by (r.number.0 == m)
  where
    itself : KeepsNumber r (Some r)
    itself s e = (let is : r ≡ s = cc in ap number_of_row (sym is))

    by : (b : Bool) → KeepsNumber r (if b then change r else Some r)
    by true = keeps r
    by false = itself

pub decided_keeps : (outcome : DeliveryState) (r : Row) → KeepsNumber r (decided outcome r)
decided_keeps outcome r = by r.forgotten
  where
    by : (b : Bool) → KeepsNumber r (if b then None else Some (record r { outcome = Some outcome }))
    by true s e = absurd cc
    by false s e = (let is : record r { outcome = Some outcome } ≡ s = cc in ap number_of_row (sym is))

pub forgotten_keeps : (r : Row) → KeepsNumber r (forgotten r)
forgotten_keeps r = by (is_some r.outcome)
  where
    by : (b : Bool) → KeepsNumber r (if b then None else Some (record r { forgotten = true }))
    by true s e = absurd cc
    by false s e = (let is : record r { forgotten = true } ≡ s = cc in ap number_of_row (sym is))

-- the row of a number after a change of one row
pub found_with : (m n : ℕ) (change : Row → Option Row) → ((r : Row) → KeepsNumber r (change r)) → (rs : List Row) → Rises number_of_row rs
    → row_at n (with_row m change rs) ≡ (if n == m then option_and_then change (row_at n rs) else row_at n rs)
found_with m n change keeps rs up = found_through (one m change) (one_keeps m change keeps) n rs up ∙ by (row_at n rs) refl
  where
    by : (o : Option Row) → row_at n rs ≡ o → option_and_then (one m change) o ≡ (if n == m then option_and_then change o else o)
    by None is = none (n == m)
      where
        none : (b : Bool) → None ≡ (if b then option_and_then change None else None)
        none true = refl
        none false = refl
    by (Some r) is =
        ap (λ (k : ℕ). if k == m then change r else Some r) (found_number n rs r is) ∙ either (n == m)
      where
        either : (b : Bool) → (if b then change r else Some r) ≡ (if b then option_and_then change (Some r) else Some r)
        either true = refl
        either false = refl

-- after a row that is new
pub found_before : (n : ℕ) (rs : List Row) (x : Row) → n < number_of_row x → row_at n (rs ++ x ∷ []) ≡ row_at n rs
found_before n rs x low = find-append (λ r. r.number.0 == n) rs (x ∷ []) ∙ by (row_at n rs)
  where
    by : (o : Option Row) → option_or o (cond (number_of_row x == n) (Some x) None) ≡ o
    by None = rw (above_other (number_of_row x) n low) refl
    by (Some r) = refl

pub found_new : (rs : List Row) (x : Row) → AllBelow number_of_row (number_of_row x) rs → row_at (number_of_row x) (rs ++ x ∷ []) ≡ Some x
found_new rs x below =
    find-append (λ r. r.number.0 == number_of_row x) rs (x ∷ [])
    ∙ ap (λ (o : Option Row). option_or o (cond (number_of_row x == number_of_row x) (Some x) None)) (none_below (number_of_row x) rs below)
    ∙ rw (same_numbers (number_of_row x) (number_of_row x) refl) refl

-- the one at its place among rows whose numbers rise
pub found_in : (earlier later : List Row) (x : Row) → Rises number_of_row (earlier ++ x ∷ later) → row_at (number_of_row x) (earlier ++ x ∷ later) ≡ Some x
found_in [] later x up = rw (same_numbers (number_of_row x) (number_of_row x) refl) refl
found_in (r ∷ rs) later x up = rw (lower (number_of_row r) (number_of_row x) (among rs up.0)) (found_in rs later x up.1)
  where
    lower : (a n : ℕ) → a < n → (a == n) ≡ false
    lower a n l = grind (arith, nat_tests)

    among : (ys : List Row) → AllAbove number_of_row (number_of_row r) (ys ++ x ∷ later) → number_of_row r < number_of_row x
    among [] above = above.0
    among (y ∷ ys) above = among ys above.1
