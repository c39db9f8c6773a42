-- What is found of rows by numbers that rise, in the order of the numbers, is found in the order of the rows.
use Rattle.std.proofs.Common.{◌≡◌, ◌∙◌, sym, ap, refl, ℕ, ◌<◌, ◌≤◌, Bool, true, false, List, [], ◌∷◌, ◌++◌, Option, Some, None, arith}
use Rattle.std.specs.Prelude.{find, filter_map, nat_lt, ◌==◌}
use Rattle.std.specs.List.{cons_option, flat_map}
use Rattle.std.proofs.lemmas.Bool.Decides.{nat_tests}
use Rattle.book_model.specs.declared.act.Act.{Act}
use Rattle.book_model.specs.declared.row.Row.{Row}
use Rattle.book_model.specs.Book.{row_at}
use Rattle.book_core.specs.Rising.{Rises, AllAbove}

abbrev pub number_of_row : Row → ℕ
number_of_row r = r.number.0

pub same_number : (n : ℕ) → (n == n) ≡ true
same_number n = grind (arith, nat_tests)

pub lower : (a n : ℕ) → a < n → (a == n) ≡ false
lower a n l = grind (arith, nat_tests)

is_lower : (a n : ℕ) → nat_lt a n ≡ true → a < n
is_lower a n t = grind (arith, nat_tests)

is_same : (a n : ℕ) → (a == n) ≡ true → a ≡ n
is_same a n t = grind (arith, nat_tests)

is_higher : (a n : ℕ) → nat_lt a n ≡ false → (a == n) ≡ false → n < a
is_higher a n t e = grind (arith, nat_tests)

pub by_test : {P : Type 0} (b : Bool) → ((b ≡ true) → P) → ((b ≡ false) → P) → P
by_test true f g = f refl
by_test false f g = g refl

module _ {V : Type 0} (name : V → ℕ) where
  above_weaker : (m n : ℕ) (vs : List V) → n ≤ m → AllAbove name m vs → AllAbove name n vs
  above_weaker m n [] le above = tt
  above_weaker m n (v ∷ vs) le above = (let first : m < name v = above.0 in omega (arith, le, first), above_weaker m n vs le above.1)

  -- below all there is none
  none_below : (n : ℕ) (vs : List V) → AllAbove name n vs → find (λ v. name v == n) vs ≡ None
  none_below n [] above = refl
  none_below n (v ∷ vs) above =
      let other : (name v == n) ≡ false = (let first : n < name v = above.0 in grind (arith, nat_tests)) in
      rw other (none_below n vs above.1)

-- the values that a function gives, as lists
abbrev pub listed : {A : Type 0} → Option A → List A
listed None = []
listed (Some a) = a ∷ []

pub as_lists : {V A : Type 0} (f : V → Option A) (vs : List V) → flat_map (λ v. listed (f v)) vs ≡ filter_map f vs
as_lists f [] = refl
as_lists {V = V} {A = A} f (v ∷ vs) = by_value (f v) (as_lists f vs)
  where
    by_value : (o : Option A) → flat_map (λ v. listed (f v)) vs ≡ filter_map f vs → listed o ++ flat_map (λ v. listed (f v)) vs ≡ cons_option o (filter_map f vs)
    by_value None rest = rest
    by_value (Some a) rest = ap (λ (xs : List A). a ∷ xs) rest

pub same_lists : {V A : Type 0} (f g : V → List A) → ((v : V) → f v ≡ g v) → (vs : List V) → flat_map f vs ≡ flat_map g vs
same_lists f g same [] = refl
same_lists f g same (v ∷ vs) = rw (same v, same_lists f g same vs) refl

module _ {E : Type 0} (name : E → ℕ) (act : E → Row → List Act) where
  -- what an entry gives of the row of its number, and a row of the entry of its number
  abbrev pub at_row : E → Option Row → List Act
  at_row e None = []
  at_row e (Some r) = act e r

  abbrev pub by_entry : Option E → Row → List Act
  by_entry None r = []
  by_entry (Some e) r = act e r

  abbrev pub by_entries : List E → List Row → List Act
  by_entries es rs = flat_map (λ e. at_row e (row_at (name e) rs)) es

  abbrev pub by_rows : List E → List Row → List Act
  by_rows es rs = flat_map (λ r. by_entry (find (λ e. name e == number_of_row r) es) r) rs

  no_rows : (es : List E) → by_entries es [] ≡ []
  no_rows [] = refl
  no_rows (e ∷ es) = no_rows es

  no_entries : (rs : List Row) → by_rows [] rs ≡ []
  no_entries [] = refl
  no_entries (r ∷ rs) = no_entries rs

  -- a row below all entries, and an entry below all rows
  skip_row : (r : Row) (rs : List Row) (es : List E) → AllAbove name (number_of_row r) es → by_entries es (r ∷ rs) ≡ by_entries es rs
  skip_row r rs [] above = refl
  skip_row r rs (e ∷ es) above =
      let other : (number_of_row r == name e) ≡ false = lower (number_of_row r) (name e) above.0 in
      rw other (ap (λ (acts : List Act). at_row e (row_at (name e) rs) ++ acts) (skip_row r rs es above.1))

  skip_entry : (e : E) (es : List E) (rs : List Row) → AllAbove number_of_row (name e) rs → by_rows (e ∷ es) rs ≡ by_rows es rs
  skip_entry e es [] above = refl
  skip_entry e es (r ∷ rs) above =
      let other : (name e == number_of_row r) ≡ false = lower (name e) (number_of_row r) above.0 in
      rw other (ap (λ (acts : List Act). by_entry (find (λ x. name x == number_of_row r) es) r ++ acts) (skip_entry e es rs above.1))

  entry_first : (e : E) (es : List E) (r : Row) (rs : List Row) → name e < number_of_row r → AllAbove number_of_row (number_of_row r) rs
      → by_entries es (r ∷ rs) ≡ by_rows es (r ∷ rs) → by_entries (e ∷ es) (r ∷ rs) ≡ by_rows (e ∷ es) (r ∷ rs)
  entry_first e es r rs l up rest =
      let above : AllAbove number_of_row (name e) (r ∷ rs) = (l, above_weaker number_of_row (number_of_row r) (name e) rs (omega (arith, l)) up) in
      ap (λ (o : Option Row). at_row e o ++ by_entries es (r ∷ rs)) (none_below number_of_row (name e) (r ∷ rs) above) ∙ rest ∙ sym (skip_entry e es (r ∷ rs) above)

  both_first : (e : E) (es : List E) (r : Row) (rs : List Row) → name e ≡ number_of_row r → AllAbove name (name e) es → AllAbove number_of_row (number_of_row r) rs
      → by_entries es rs ≡ by_rows es rs → by_entries (e ∷ es) (r ∷ rs) ≡ by_rows (e ∷ es) (r ∷ rs)
  both_first e es r rs same above up rest =
      let found : (number_of_row r == name e) ≡ true = grind (arith, nat_tests) in
      let finds : (name e == number_of_row r) ≡ true = grind (arith, nat_tests) in
      let entries : by_entries (e ∷ es) (r ∷ rs) ≡ act e r ++ by_entries es rs =
      rw found (ap (λ (acts : List Act). act e r ++ acts) (skip_row r rs es (above_weaker name (name e) (number_of_row r) es (omega (arith, same)) above))) in
      let rows : by_rows (e ∷ es) (r ∷ rs) ≡ act e r ++ by_rows es rs =
      rw finds (ap (λ (acts : List Act). act e r ++ acts) (skip_entry e es rs (above_weaker number_of_row (number_of_row r) (name e) rs (omega (arith, same)) up))) in
      entries ∙ ap (λ (acts : List Act). act e r ++ acts) rest ∙ sym rows

  row_first : (e : E) (es : List E) (r : Row) (rs : List Row) → number_of_row r < name e → AllAbove name (name e) es
      → by_entries (e ∷ es) rs ≡ by_rows (e ∷ es) rs → by_entries (e ∷ es) (r ∷ rs) ≡ by_rows (e ∷ es) (r ∷ rs)
  row_first e es r rs l above rest =
      let all : AllAbove name (number_of_row r) (e ∷ es) = (l, above_weaker name (name e) (number_of_row r) es (omega (arith, l)) above) in
      skip_row r rs (e ∷ es) all ∙ rest
      ∙ sym (ap (λ (o : Option E). by_entry o r ++ by_rows (e ∷ es) rs) (none_below name (number_of_row r) (e ∷ es) all))

  pub merged : (es : List E) (rs : List Row) → Rises name es → Rises number_of_row rs → by_entries es rs ≡ by_rows es rs
  merged [] rs eu ru = sym (no_entries rs)
  merged (e ∷ es) [] eu ru = no_rows (e ∷ es)
  merged (e ∷ es) (r ∷ rs) eu ru = by_order (merged es (r ∷ rs) eu.1 ru) (merged es rs eu.1 ru.1) (merged (e ∷ es) rs eu ru.1)
    where
      by_order : by_entries es (r ∷ rs) ≡ by_rows es (r ∷ rs) → by_entries es rs ≡ by_rows es rs → by_entries (e ∷ es) rs ≡ by_rows (e ∷ es) rs
          → by_entries (e ∷ es) (r ∷ rs) ≡ by_rows (e ∷ es) (r ∷ rs)
      by_order first both second =
          by_test (nat_lt (name e) (number_of_row r))
          (λ t. entry_first e es r rs (is_lower (name e) (number_of_row r) t) ru.0 first)
          (λ t. by_test (name e == number_of_row r)
          (λ s. both_first e es r rs (is_same (name e) (number_of_row r) s) eu.0 ru.0 both)
          (λ s. row_first e es r rs (is_higher (name e) (number_of_row r) t s) eu.0 second))
