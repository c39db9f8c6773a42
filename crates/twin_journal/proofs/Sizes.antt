-- A checkpoint grows by no more than the bytes of the acts.
use Rattle.std.proofs.Common.{◌≡◌, ℕ, ◌+◌, ◌<◌, ◌≤◌, Bool, true, false, cond, not, List, [], ◌∷◌, ◌++◌, length, Option, Some, None, refl, sym, ap, subst, arith, length-append}
use Rattle.std.specs.Prelude.{filter, is_some, map, ◌==◌, if◌then◌else◌}
use Rattle.std.specs.List.{cons_option, flat_map}
use Rattle.std.proofs.lemmas.Bool.Decides.{nat_tests}
use Rattle.amqp_model.specs.PerfSpelling.{state_spelling}
use Rattle.book_model.specs.declared.act.Act.{Act}
use Rattle.book_model.specs.declared.act.Act.TheVariants.{Make, Admit, Decide, Forget, Drop}
use Rattle.book_model.specs.declared.act.Decision.{Decision}
use Rattle.book_model.specs.declared.fault.BookFault.{BookFault}
use Rattle.book_model.specs.declared.row.Row.{Row}
use Rattle.book_model.specs.declared.row.RowNumber.{RowNumber}
use Rattle.book_model.specs.declared.terminus.Terminus.{Terminus}
use Rattle.book_model.specs.Book.{BookView, refusal, effect, effects, first_fault, or_else, admitted, decided, forgotten, with_row}
use Rattle.book_model.specs.Restoring.{acts_of_book, row_acts, admission_of, decide_acts, forget_acts}
use Rattle.book_core.specs.Rising.{Rises, AllAbove}
use Rattle.journal_codec.specs.Format.{in_2, in_8, act_bytes, acts_bytes}
use Rattle.journal_codec.proofs.Spelled.{length-in_2, length-in_8}
use Rattle.gate_journal.specs.Ordered.{IsOrdered, number_of_row}
use Rattle.gate_journal.proofs.Ordered.{ordered_step}
use Rattle.twin_journal.specs.Format.{checkpoint_size}

abbrev size : List Act → ℕ
size acts = length (acts_bytes acts)

size_more : (xs ys : List Act) → size (xs ++ ys) ≡ size xs + size ys
size_more [] ys = omega arith
size_more (x ∷ xs) ys = omega (arith, size_more xs ys, length-append (act_bytes x) (acts_bytes (xs ++ ys)), length-append (act_bytes x) (acts_bytes xs))

size_one : (act : Act) (acts : List Act) → size (act ∷ acts) ≡ length (act_bytes act) + size acts
size_one act acts = length-append (act_bytes act) (acts_bytes acts)

decide_length : (d : Decision) → length (act_bytes (Decide d)) ≡ 11 + length (state_spelling d.outcome)
unfolding act_bytes
decide_length d =
    let o = state_spelling d.outcome in
    omega (
      arith,
      length-append ((3 ∷ []) ++ in_8 d.row.0 ++ in_2 (length o)) o,
      length-append ((3 ∷ []) ++ in_8 d.row.0) (in_2 (length o)),
      length-append (3 ∷ []) (in_8 d.row.0),
      length-in_8 d.row.0,
      length-in_2 (length o),
    )

forget_length : (n : RowNumber) → length (act_bytes (Forget n)) ≡ 9
unfolding act_bytes
forget_length n = omega (arith, length-append (4 ∷ []) (in_8 n.0), length-in_8 n.0)

-- The acts of a row.
abbrev row_size : Row → ℕ
row_size r = size (row_acts r)

row_size_is : (r : Row) → row_size r ≡ length (act_bytes (Admit (admission_of r))) + size (decide_acts r.number r.outcome) + size (forget_acts r.number r.forgotten)
row_size_is r =
    omega (
      arith,
      size_more (Admit (admission_of r) ∷ decide_acts r.number r.outcome) (forget_acts r.number r.forgotten),
      size_one (Admit (admission_of r)) (decide_acts r.number r.outcome),
    )

-- by how much a decision and a forget make it larger
decided_size : (d : Decision) (r s : Row) → decided d.outcome r ≡ Some s → row_size s ≤ row_size r + length (act_bytes (Decide d))
decided_size d r s e = by_forgotten r.forgotten refl e
  where
    grown : row_size (record r { outcome = Some d.outcome }) ≤ row_size r + length (act_bytes (Decide d))
    grown =
        omega (
          arith,
          row_size_is r,
          row_size_is (record r { outcome = Some d.outcome }),
          size_one (Decide (record { row = r.number; outcome = d.outcome })) [],
          decide_length d,
          decide_length (record { row = r.number; outcome = d.outcome }),
        )

    by_forgotten : (b : Bool) → r.forgotten ≡ b → (if b then None else Some (record r { outcome = Some d.outcome })) ≡ Some s → row_size s ≤ row_size r + length (act_bytes (Decide d))
    by_forgotten true f g = absurd cc
    by_forgotten false f g =
        let same : record r { outcome = Some d.outcome } ≡ s = cc in subst (λ (x : Row). row_size x ≤ row_size r + length (act_bytes (Decide d))) same grown

forgotten_size : (n : RowNumber) (r s : Row) → forgotten r ≡ Some s → row_size s ≤ row_size r + length (act_bytes (Forget n))
forgotten_size n r s e = by_outcome (is_some r.outcome) e
  where
    grown : row_size (record r { forgotten = true }) ≤ row_size r + length (act_bytes (Forget n))
    grown = omega (arith, row_size_is r, row_size_is (record r { forgotten = true }), size_one (Forget r.number) [], forget_length n, forget_length r.number)

    by_outcome : (b : Bool) → (if b then None else Some (record r { forgotten = true })) ≡ Some s → row_size s ≤ row_size r + length (act_bytes (Forget n))
    by_outcome true f = absurd cc
    by_outcome false f =
        let same : record r { forgotten = true } ≡ s = cc in subst (λ (x : Row). row_size x ≤ row_size r + length (act_bytes (Forget n))) same grown

-- The acts of rows.
abbrev rows_size : List Row → ℕ
rows_size rs = size (flat_map row_acts rs)

rows_one : (r : Row) (rs : List Row) → rows_size (r ∷ rs) ≡ row_size r + rows_size rs
rows_one r rs = size_more (row_acts r) (flat_map row_acts rs)

rows_more : (rs : List Row) (r : Row) → rows_size (rs ++ r ∷ []) ≡ rows_size rs + row_size r
rows_more [] r = omega (arith, rows_one r [])
rows_more (s ∷ rs) r = omega (arith, rows_more rs r, rows_one s (rs ++ r ∷ []), rows_one s rs)

other_number : (a n : ℕ) → n < a → (a == n) ≡ false
other_number a n l = grind (arith, nat_tests)

same_number : (a n : ℕ) → (a == n) ≡ true → a ≡ n
same_number a n e = grind (arith, nat_tests)

module _ (n : ℕ) (change : Row → Option Row) (more : ℕ) (grows : (r s : Row) → change r ≡ Some s → row_size s ≤ row_size r + more) where
  above_stay : (rs : List Row) → AllAbove number_of_row n rs → with_row n change rs ≡ rs
  above_stay [] above = refl
  above_stay (r ∷ rs) above =
      let other : (r.number.0 == n) ≡ false = other_number r.number.0 n above.0 in
      rw other (ap (λ (xs : List Row). r ∷ xs) (above_stay rs above.1))

  one_size : (r : Row) (rs : List Row) (o : Option Row) → change r ≡ o → rows_size (cons_option o rs) ≤ row_size r + rows_size rs + more
  one_size r rs None e = omega arith
  one_size r rs (Some s) e = omega (arith, rows_one s rs, grows r s e)

  changed_size : (rs : List Row) → Rises number_of_row rs → rows_size (with_row n change rs) ≤ rows_size rs + more
  changed_size [] up = omega arith
  changed_size (r ∷ rs) up = by_number (r.number.0 == n) refl (changed_size rs up.1)
    where
      by_number : (b : Bool) → (r.number.0 == n) ≡ b → rows_size (with_row n change rs) ≤ rows_size rs + more → rows_size (cons_option (cond b (change r) (Some r)) (with_row n change rs)) ≤ rows_size (r ∷ rs) + more
      by_number true e rest =
          let above = subst (λ (m : ℕ). AllAbove number_of_row m rs) (same_number r.number.0 n e) up.0 in
          let stay = above_stay rs above in
          subst (λ (xs : List Row). rows_size (cons_option (change r) xs) ≤ rows_size (r ∷ rs) + more) (sym stay) (omega (arith, one_size r rs (change r) refl, rows_one r rs))
      by_number false e rest = omega (arith, rest, rows_one r rs, rows_one r (with_row n change rs))

-- The acts of termini.
abbrev termini_size : List Terminus → ℕ
termini_size ts = size (map Make ts)

termini_more : (ts : List Terminus) (t : Terminus) → termini_size (ts ++ t ∷ []) ≡ termini_size ts + length (act_bytes (Make t))
termini_more [] t = omega (arith, size_one (Make t) [])
termini_more (u ∷ ts) t = omega (arith, termini_more ts t, size_one (Make u) (map Make (ts ++ t ∷ [])), size_one (Make u) (map Make ts))

termini_less : (keep : Terminus → Bool) (ts : List Terminus) → termini_size (filter keep ts) ≤ termini_size ts
termini_less keep [] = omega arith
termini_less keep (t ∷ ts) = by_test (keep t) (termini_less keep ts)
  where
    by_test : (b : Bool) → termini_size (filter keep ts) ≤ termini_size ts → termini_size (cond b (t ∷ filter keep ts) (filter keep ts)) ≤ termini_size (t ∷ ts)
    by_test true rest = omega (arith, rest, size_one (Make t) (map Make (filter keep ts)), size_one (Make t) (map Make ts))
    by_test false rest = omega (arith, rest, size_one (Make t) (map Make ts))

-- The acts of a book.
abbrev book_size : BookView → ℕ
book_size b = size (acts_of_book b)

book_size_is : (b : BookView) → book_size b ≡ termini_size b.termini + rows_size b.rows
book_size_is b = size_more (map Make b.termini) (flat_map row_acts b.rows)

act_size : (b : BookView) (act : Act) → IsOrdered b → book_size (effect b act) ≤ book_size b + length (act_bytes act)
act_size b (Make t) up = omega (arith, book_size_is b, book_size_is (effect b (Make t)), termini_more b.termini t)
act_size b (Admit a) up = omega (arith, book_size_is b, book_size_is (effect b (Admit a)), rows_more b.rows (admitted a), row_size_is (admitted a))
act_size b (Decide d) up =
    omega (arith, book_size_is b, book_size_is (effect b (Decide d)), changed_size d.row.0 (decided d.outcome) (length (act_bytes (Decide d))) (decided_size d) b.rows up.rows_rise)
act_size b (Forget n) up =
    omega (arith, book_size_is b, book_size_is (effect b (Forget n)), changed_size n.0 forgotten (length (act_bytes (Forget n))) (forgotten_size n) b.rows up.rows_rise)
act_size b (Drop n) up = omega (arith, book_size_is b, book_size_is (effect b (Drop n)), termini_less (λ t. not (t.number.0 == n.0)) b.termini)

first_none : (o rest : Option BookFault) → or_else o rest ≡ None → o ≡ None
first_none None rest e = refl
first_none (Some f) rest e = absurd cc

rest_none : (o rest : Option BookFault) → or_else o rest ≡ None → rest ≡ None
rest_none None rest e = e
rest_none (Some f) rest e = absurd cc

acts_size : (b : BookView) (acts : List Act) → IsOrdered b → first_fault b acts ≡ None → book_size (effects b acts) ≤ book_size b + size acts
unfolding first_fault effects
acts_size b [] up applies = omega arith
acts_size b (act ∷ acts) up applies =
    let first = first_none (refusal b act) (first_fault (effect b act) acts) applies in
    let rest = rest_none (refusal b act) (first_fault (effect b act) acts) applies in
    omega (arith, act_size b act up, acts_size (effect b act) acts (ordered_step b act up first) rest, size_one act acts)

pub checkpoint_size_is : (b : BookView) → checkpoint_size b ≡ 16 + length (acts_bytes (acts_of_book b))
checkpoint_size_is b =
    omega (arith, length-append (in_8 b.next_terminus ++ in_8 b.next_row) (acts_bytes (acts_of_book b)), length-append (in_8 b.next_terminus) (in_8 b.next_row), length-in_8 b.next_terminus, length-in_8 b.next_row)

pub checkpoint_grows : (b : BookView) (acts : List Act) → IsOrdered b → first_fault b acts ≡ None → checkpoint_size (effects b acts) ≤ checkpoint_size b + length (acts_bytes acts)
checkpoint_grows b acts up applies = omega (arith, acts_size b acts up applies, checkpoint_size_is b, checkpoint_size_is (effects b acts))
