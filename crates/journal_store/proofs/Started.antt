-- The acts of a start apply, fit a batch, and have outcomes.
use Rattle.std.proofs.Common.{◌≡◌, ◌≢◌, ◌∙◌, ap, ℕ, ◌≤◌, ◌<◌, ◌*◌, ◌&&◌, Bool, true, false, cond, List, [], ◌∷◌, ◌++◌, map, length, Option, Some, None, refl, arith, length-append}
use Rattle.std.specs.Prelude.{filter, is_none, ◌==◌}
use Rattle.std.specs.List.{cons_option}
use Rattle.std.proofs.lemmas.Bool.Decides.{nat_tests}
use Rattle.amqp_model.specs.declared.state.DeliveryState.{DeliveryState}
use Rattle.amqp_model.specs.ValueSpelling.{spelling as value_spelling}
use Rattle.amqp_model.specs.Texts.{given, described_text, joined}
use Rattle.amqp_model.specs.PerfSpelling.{state_spelling, modified_texts}
use Rattle.book_model.specs.declared.row.Row.{Row}
use Rattle.book_model.specs.Book.{BookView, refusal, effect, first_fault, row_at, with_row, decided, is_undecided}
use Rattle.book_model.specs.Sound.{IsSound}
use Rattle.book_core.specs.Rising.{Rises, AllAbove}
use Rattle.book_core.proofs.Shown as shown
use Rattle.journal_codec.specs.Batches.{HaveOutcomes, IsOutcome}
use Rattle.journal_codec.specs.Format.{act_bytes, acts_bytes, in_8, in_2}
use Rattle.journal_codec.proofs.Spelled.{length-in_2, length-in_8}
use Rattle.gate_journal.specs.Reserve.{OnlyRelease}
use Rattle.journal_codec.proofs.Terminal.{is_outcome}
use Rattle.twin_journal.specs.Room.{IsFull}
use Rattle.twin_journal.proofs.Fulls.{releases_are_taken}
use Rattle.journal_store.proofs.Sound.{sound_is_ordered}
use Rattle.journal_store.specs.Lost.{failed, is_lost, failure_of, start_acts}

abbrev number_of_row : Row → ℕ
number_of_row r = r.number.0

same_number : (n : ℕ) → (n == n) ≡ true
same_number n = grind (arith, nat_tests)

other_number : (a n : ℕ) → a < n → (a == n) ≡ false
other_number a n l = grind (arith, nat_tests)

-- Each of some rows is found by its number among all, and nothing is decided of it.
abbrev AllOpen : List Row → List Row → Type 0
AllOpen xs [] = Unit {0}
AllOpen xs (r ∷ rs) = (row_at r.number.0 xs ≡ Some r) × (is_undecided r ≡ true) × AllOpen xs rs

abbrev AllIn : List Row → List Row → Type 0
AllIn xs [] = Unit {0}
AllIn xs (r ∷ rs) = (row_at r.number.0 xs ≡ Some r) × AllIn xs rs

in_more : (x : Row) (xs rs : List Row) → AllAbove number_of_row x.number.0 rs → AllIn xs rs → AllIn (x ∷ xs) rs
in_more x xs [] above all = tt
in_more x xs (r ∷ rs) above all = (rw (other_number x.number.0 r.number.0 above.0) all.0, in_more x xs rs above.1 all.1)

in_all : (xs : List Row) → Rises number_of_row xs → AllIn xs xs
in_all [] rise = tt
in_all (x ∷ xs) rise = (rw (same_number x.number.0) refl, in_more x xs xs rise.0 (in_all xs rise.1))

lost_undecided : (u n : Bool) → (u && n) ≡ true → u ≡ true
lost_undecided true n h = refl
lost_undecided false n h = absurd cc

open_lost : (xs rs : List Row) → AllIn xs rs → AllOpen xs (filter is_lost rs)
open_lost xs [] all = tt
open_lost xs (r ∷ rs) all = by_bool (is_lost r) refl (open_lost xs rs all.1)
  where
    by_bool : (b : Bool) → is_lost r ≡ b → AllOpen xs (filter is_lost rs) → AllOpen xs (cond b (r ∷ filter is_lost rs) (filter is_lost rs))
    by_bool true e rest = (all.0, lost_undecided (is_undecided r) (is_none r.consumer) e, rest)
    by_bool false e rest = rest

-- A decision of one row leaves the others found.
decided_number : (o : DeliveryState) (r : Row) (m : ℕ) → (number_of_row r == m) ≡ false → (xs : List Row)
    → row_at m (cons_option (decided o r) xs) ≡ row_at m xs
decided_number o r m ne xs = by_bool r.forgotten
  where
    by_bool : (b : Bool) → row_at m (cons_option (cond b None (Some (record r { outcome = Some o }))) xs) ≡ row_at m xs
    by_bool true = refl
    by_bool false = rw ne refl

found_other : (o : DeliveryState) (n m : ℕ) → n < m → (xs : List Row) → row_at m (with_row n (decided o) xs) ≡ row_at m xs
found_other o n m l [] = refl
found_other o n m l (x ∷ xs) = by_bool (number_of_row x == n) refl (found_other o n m l xs)
  where
    by_bool : (b : Bool) → (number_of_row x == n) ≡ b → row_at m (with_row n (decided o) xs) ≡ row_at m xs
        → row_at m (cons_option (cond b (decided o x) (Some x)) (with_row n (decided o) xs)) ≡ row_at m (x ∷ xs)
    by_bool true e rest =
        let not_m : (number_of_row x == m) ≡ false = grind (arith, nat_tests) in
        rw not_m (decided_number o x m not_m (with_row n (decided o) xs) ∙ rest)
    by_bool false e rest = ap (λ (v : Option Row). cond (number_of_row x == m) (Some x) v) rest

still_open : (o : DeliveryState) (n : ℕ) (xs rs : List Row) → AllAbove number_of_row n rs → AllOpen xs rs → AllOpen (with_row n (decided o) xs) rs
still_open o n xs [] above all = tt
still_open o n xs (r ∷ rs) above all = (found_other o n r.number.0 above.0 xs ∙ all.0, all.1, still_open o n xs rs above.1 all.2)

-- the outcome's encoding has seven bytes
outcome_length : length (state_spelling failed) ≡ 7
unfolding state_spelling described_text given value_spelling
outcome_length = refl

pub short_outcome : length (state_spelling failed) ≤ 400
short_outcome = let seven = outcome_length in omega (arith, seven)

may_fail : (b : BookView) (r : Row) → row_at r.number.0 b.rows ≡ Some r → is_undecided r ≡ true → refusal b (failure_of r) ≡ None
may_fail b r at undecided = rw (at, undecided, outcome_length) refl

all_apply : (rs : List Row) (b : BookView) → Rises number_of_row rs → AllOpen b.rows rs → first_fault b (map failure_of rs) ≡ None
unfolding first_fault
all_apply [] b rise all = refl
all_apply (r ∷ rs) b rise all =
    rw (may_fail b r all.0 all.1) (all_apply rs (effect b (failure_of r)) rise.1 (still_open failed r.number.0 b.rows rs rise.0 all.2))

pub start_applies : (b : BookView) → Rises number_of_row b.rows → first_fault b (start_acts b) ≡ None
start_applies b rise = all_apply (filter is_lost b.rows) b (shown.rises_filter number_of_row is_lost b.rows rise) (open_lost b.rows b.rows (in_all b.rows rise))

-- The acts' bytes.
fewer : (rs : List Row) → length (filter is_lost rs) ≤ length rs
fewer [] = omega arith
fewer (r ∷ rs) = by_bool (is_lost r) (fewer rs)
  where
    by_bool : (b : Bool) → length (filter is_lost rs) ≤ length rs → length (cond b (r ∷ filter is_lost rs) (filter is_lost rs)) ≤ length (r ∷ rs)
    by_bool true rest = omega (arith, rest)
    by_bool false rest = omega (arith, rest)

short_act : (r : Row) → length (act_bytes (failure_of r)) ≤ 411
unfolding act_bytes
short_act r =
    omega (
      arith,
      short_outcome,
      length-in_8 r.number.0,
      length-in_2 (length (state_spelling failed)),
      length-append (3 ∷ []) (in_8 r.number.0),
      length-append ((3 ∷ []) ++ in_8 r.number.0) (in_2 (length (state_spelling failed))),
      length-append ((3 ∷ []) ++ in_8 r.number.0 ++ in_2 (length (state_spelling failed))) (state_spelling failed),
    )

short_acts : (rs : List Row) → length (acts_bytes (map failure_of rs)) ≤ 411 * length rs
short_acts [] = omega arith
short_acts (r ∷ rs) = omega (arith, short_act r, short_acts rs, length-append (act_bytes (failure_of r)) (acts_bytes (map failure_of rs)))

pub start_small : (b : BookView) → length b.rows ≤ 4096 → length (acts_bytes (start_acts b)) ≤ 4194304
start_small b few = omega (arith, few, fewer b.rows, short_acts (filter is_lost b.rows))

-- Their outcomes.
flags_length : length (joined (given (modified_texts (record { delivery_failed = true; undeliverable_here = false; message_annotations = None })))) ≡ 1
unfolding given value_spelling
flags_length = refl

pub failed_is_outcome : IsOutcome failed
failed_is_outcome = is_outcome failed tt (record { message_annotations = tt; whole = let one = flags_length in omega (arith, one) })

all_outcomes : (rs : List Row) → HaveOutcomes (map failure_of rs)
all_outcomes [] = tt
all_outcomes (r ∷ rs) = (failed_is_outcome, all_outcomes rs)

pub start_outcomes : (b : BookView) → HaveOutcomes (start_acts b)
start_outcomes b = all_outcomes (filter is_lost b.rows)

-- They only release.
all_release : (rs : List Row) → OnlyRelease (map failure_of rs)
all_release [] = tt
all_release (r ∷ rs) = (short_outcome, all_release rs)

pub start_fits : (b : BookView) → IsSound b → start_acts b ≢ [] → IsFull b (start_acts b) → ⊥
start_fits b sound some = releases_are_taken b (start_acts b) sound (start_applies b (sound_is_ordered b sound).rows_rise) some (all_release (filter is_lost b.rows))
