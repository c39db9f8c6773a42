-- The lemmas of `Shown` at termini and at rows.
use Rattle.std.proofs.Common.{[], ◌∷◌, refl, ap, ◌≡◌, ℕ, List, get_or, None}
use Rattle.std.specs.Prelude.{filter}
use Rattle.book_model.specs.declared.row.Row.{Row}
use Rattle.book_core.specs.declared.slot.RowSlot.{RowSlot}
use Rattle.book_core.specs.declared.slot.TerminusSlot.{TerminusSlot}
use Rattle.book_model.specs.declared.terminus.Terminus.{Terminus}
use Rattle.book_model.specs.Book.{row_at, terminus_at, is_wanted}
use Rattle.book_core.specs.Rising.{Rises, Lacks, IsAt}
use Rattle.book_core.specs.Slots.{rows_in, termini_in}
use Rattle.book_core.proofs.Shown as shown

pub row_found : (n : ℕ) (xs : List RowSlot) (at : ℕ) (d : RowSlot) → Rises (λ (s : RowSlot). s.number) xs → IsAt (λ (s : RowSlot). s.number) n xs at → row_at n (rows_in xs) ≡ (get_or xs at d).row
row_found n xs at d up h = shown.find_at (λ (s : RowSlot). s.number) (λ s. s.row) (λ (r : Row). r.number.0) (λ s. s.same) n xs at d up h

pub row_missing : (n : ℕ) (xs : List RowSlot) → Lacks (λ (s : RowSlot). s.number) n xs → row_at n (rows_in xs) ≡ None
row_missing n xs h = shown.find_lacking (λ (s : RowSlot). s.number) (λ s. s.row) (λ (r : Row). r.number.0) (λ s. s.same) n xs h

pub terminus_found : (n : ℕ) (xs : List TerminusSlot) (at : ℕ) (d : TerminusSlot) → Rises (λ (s : TerminusSlot). s.number) xs → IsAt (λ (s : TerminusSlot). s.number) n xs at → terminus_at n (termini_in xs) ≡ (get_or xs at d).terminus
terminus_found n xs at d up h = shown.find_at (λ (s : TerminusSlot). s.number) (λ s. s.terminus) (λ (t : Terminus). t.number.0) (λ s. s.same) n xs at d up h

pub terminus_missing : (n : ℕ) (xs : List TerminusSlot) → Lacks (λ (s : TerminusSlot). s.number) n xs → terminus_at n (termini_in xs) ≡ None
terminus_missing n xs h = shown.find_lacking (λ (s : TerminusSlot). s.number) (λ s. s.terminus) (λ (t : Terminus). t.number.0) (λ s. s.same) n xs h

pub all_wanted : (rs : List Row) → filter (is_wanted None) rs ≡ rs
all_wanted [] = refl
all_wanted (r ∷ rs) = ap (λ ss. r ∷ ss) (all_wanted rs)

pub shown_rise : (xs : List RowSlot) → Rises (λ (s : RowSlot). s.number) xs → Rises (λ (r : Row). r.number.0) (rows_in xs)
shown_rise xs up = shown.rises_shown (λ (s : RowSlot). s.number) (λ s. s.row) (λ (r : Row). r.number.0) (λ s. s.same) xs up
