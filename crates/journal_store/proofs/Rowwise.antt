-- Acts on rows, one a row at most, in the order of the rows: they apply, and change the rows one by one.
use Rattle.std.proofs.Common.{◌≡◌, ◌∙◌, sym, ap, refl, subst, ℕ, ◌<◌, false, List, [], ◌∷◌, ◌++◌, Option, Some, None, append_assoc, arith}
use Rattle.std.specs.Prelude.{filter_map, ◌==◌}
use Rattle.std.specs.List.{cons_option}
use Rattle.std.specs.Option.{ForSome}
use Rattle.std.proofs.lemmas.Bool.Decides.{nat_tests}
use Rattle.book_model.specs.declared.act.Act.{Act}
use Rattle.book_model.specs.declared.fault.BookFault.{BookFault}
use Rattle.book_model.specs.declared.row.Row.{Row}
use Rattle.book_model.specs.Book.{BookView, refusal, effect, effects, first_fault, or_else, row_at, with_row}
use Rattle.book_core.specs.Rising.{Rises, AllAbove}
use Rattle.journal_store.proofs.Merging.{number_of_row, same_number, lower, listed}

-- an act that applies to a book with this row, and leaves of the row what is said
pub record Changes (r : Row) (act : Act) (now : Option Row) : Type 0 where
  pub applies : (b : BookView) → row_at (number_of_row r) b.rows ≡ Some r → refusal b act ≡ None
  pub change : Row → Option Row
  pub leaves : change r ≡ now
  pub does : (b : BookView) → effect b act ≡ record b { rows = with_row (number_of_row r) change b.rows }

-- what an act, or none, leaves of a row
abbrev pub Does : Row → Option Act → Option Row → Type 0
Does r None now = now ≡ Some r
Does r (Some act) now = Changes r act now

abbrev pub KeepsNumber : Row → Option Row → Type 0
KeepsNumber r now = ForSome now (λ s. number_of_row s ≡ number_of_row r)

-- each of some rows is below all of others
abbrev AllBefore : List Row → List Row → Type 0
AllBefore [] rs = Unit {0}
AllBefore (d ∷ ds) rs = AllAbove number_of_row (number_of_row d) rs × AllBefore ds rs

before_rest : (ds : List Row) (r : Row) (rs : List Row) → AllBefore ds (r ∷ rs) → AllBefore ds rs
before_rest [] r rs all = tt
before_rest (d ∷ ds) r rs all = (all.0.1, before_rest ds r rs all.1)

before_more : (ds : List Row) (o : Option Row) (r : Row) (rs : List Row) → KeepsNumber r o → AllAbove number_of_row (number_of_row r) rs → AllBefore ds rs → AllBefore (ds ++ listed o) rs
before_more [] None r rs same above all = tt
before_more [] (Some s) r rs same above all = (let P : ℕ → Type 0 = λ n. AllAbove number_of_row n rs in subst P (sym (same s refl)) above, tt)
before_more (d ∷ ds) o r rs same above all = (all.0, before_more ds o r rs same above all.1)

-- the row is found after those that are below it
found_after : (ds : List Row) (r : Row) (rs : List Row) → AllBefore ds (r ∷ rs) → row_at (number_of_row r) (ds ++ r ∷ rs) ≡ Some r
found_after [] r rs all = rw (same_number (number_of_row r)) refl
found_after (d ∷ ds) r rs all =
    let other : (number_of_row d == number_of_row r) ≡ false = lower (number_of_row d) (number_of_row r) all.0.0 in
    rw other (found_after ds r rs all.1)

higher : (a n : ℕ) → n < a → (a == n) ≡ false
higher a n l = grind (arith, nat_tests)

-- Only that row changes.
above_stay : (n : ℕ) (change : Row → Option Row) (rs : List Row) → AllAbove number_of_row n rs → with_row n change rs ≡ rs
above_stay n change [] above = refl
above_stay n change (r ∷ rs) above =
    let other : (number_of_row r == n) ≡ false = higher (number_of_row r) n above.0 in
    rw other (ap (λ (xs : List Row). r ∷ xs) (above_stay n change rs above.1))

option_in_front : (o : Option Row) (rs : List Row) → cons_option o rs ≡ listed o ++ rs
option_in_front None rs = refl
option_in_front (Some r) rs = refl

changed_after : (change : Row → Option Row) (ds : List Row) (r : Row) (rs : List Row) → AllBefore ds (r ∷ rs) → AllAbove number_of_row (number_of_row r) rs
    → with_row (number_of_row r) change (ds ++ r ∷ rs) ≡ ds ++ (listed (change r) ++ rs)
changed_after change [] r rs all above =
    rw (same_number (number_of_row r)) (ap (cons_option (change r)) (above_stay (number_of_row r) change rs above) ∙ option_in_front (change r) rs)
changed_after change (d ∷ ds) r rs all above =
    let other : (number_of_row d == number_of_row r) ≡ false = lower (number_of_row d) (number_of_row r) all.0.0 in
    rw other (ap (λ (xs : List Row). d ∷ xs) (changed_after change ds r rs all.1 above))

none_first : (o rest : Option BookFault) → o ≡ None → rest ≡ None → or_else o rest ≡ None
none_first o rest first others = rw first others

-- acts that apply to a book, and the rows that they leave
pub record Leaves (b : BookView) (acts : List Act) (rows : List Row) : Type 0 where
  pub applies : first_fault b acts ≡ None
  pub is : effects b acts ≡ record b { rows = rows }

module _ (act : Row → Option Act) (after : Row → Option Row) (does : (r : Row) → Does r (act r) (after r)) (same : (r : Row) → KeepsNumber r (after r)) where
  row_by_row : (rs done : List Row) (b : BookView) → b.rows ≡ done ++ rs → Rises number_of_row rs → AllBefore done rs
      → Leaves b (filter_map act rs) (done ++ filter_map after rs)
  unfolding first_fault effects
  row_by_row [] done b is up low = record { applies = refl; is = ap (λ (xs : List Row). record b { rows = xs }) is }
  row_by_row (r ∷ rs) done b is up low = by_act (act r) (after r) (does r) (same r) (λ ds c. row_by_row rs ds c)
    where
      Rest : Type 0
      Rest = (ds : List Row) (c : BookView) → c.rows ≡ ds ++ rs → Rises number_of_row rs → AllBefore ds rs → Leaves c (filter_map act rs) (ds ++ filter_map after rs)

      by_act : (o : Option Act) (now : Option Row) → Does r o now → KeepsNumber r now → Rest
          → Leaves b (cons_option o (filter_map act rs)) (done ++ cons_option now (filter_map after rs))
      by_act None now stays number rest =
          let behind = rest (done ++ r ∷ []) b (is ∙ sym (append_assoc done (r ∷ []) rs)) up.1 (before_more done (Some r) r rs (λ s e. let is_it : r ≡ s = cc in ap number_of_row (sym is_it)) up.0 (before_rest done r rs low)) in
          record {
            applies = behind.applies;
            is = behind.is ∙ ap (λ (xs : List Row). record b { rows = xs }) (append_assoc done (r ∷ []) (filter_map after rs) ∙ ap (λ (n : Option Row). done ++ cons_option n (filter_map after rs)) (sym stays));
          }
      by_act (Some a) now c number rest =
          let rows : (effect b a).rows ≡ (done ++ listed now) ++ rs =
          ap (λ (x : BookView). x.rows) (c.does b)
          ∙ ap (with_row (number_of_row r) c.change) is
          ∙ changed_after c.change done r rs low up.0
          ∙ ap (λ (n : Option Row). done ++ (listed n ++ rs)) c.leaves
          ∙ sym (append_assoc done (listed now) rs) in
          let behind = rest (done ++ listed now) (effect b a) rows up.1 (before_more done now r rs number up.0 (before_rest done r rs low)) in
          record {
            applies = none_first (refusal b a) (first_fault (effect b a) (filter_map act rs)) (c.applies b (ap (row_at (number_of_row r)) is ∙ found_after done r rs low)) behind.applies;
            is =
                behind.is
                ∙ ap (λ (x : BookView). record x { rows = (done ++ listed now) ++ filter_map after rs }) (c.does b)
                ∙ ap (λ (xs : List Row). record b { rows = xs }) (append_assoc done (listed now) (filter_map after rs) ∙ ap (λ (xs : List Row). done ++ xs) (sym (option_in_front now (filter_map after rs))));
          }

  -- to a book whose rows rise they apply, and each row becomes what is said of it
  pub each_row : (b : BookView) → Rises number_of_row b.rows → Leaves b (filter_map act b.rows) (filter_map after b.rows)
  each_row b up = row_by_row b.rows [] b refl up tt
