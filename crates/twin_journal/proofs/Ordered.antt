-- The numbers of a sound book rise.
use Rattle.std.proofs.Common.{ℕ, ◌<◌, List, [], ◌∷◌}
use Rattle.std.specs.List.{AllByRecursion}
use Rattle.std.proofs.lemmas.List.Elements.{recursion_from_All}
use Rattle.book_model.specs.declared.row.Row.{Row}
use Rattle.book_model.specs.declared.terminus.Terminus.{Terminus}
use Rattle.book_model.specs.Book.{BookView}
use Rattle.book_model.specs.Sound.{IsSound, IsSoundRow, IsSoundTerminus}
use Rattle.book_laws.proofs.Lists.{Pairs, pairs_of}
use Rattle.book_core.specs.Rising.{Rises, AllAbove, AllBelow}
use Rattle.gate_journal.specs.Ordered.{IsOrdered, number_of_row, number_of_terminus}

-- Numbers of which each is below those after it, and each of which is between two others.
module _ {V : Type 0} (number : V → ℕ) (n : ℕ) (P : V → Type 0) where
  above : ((v : V) → P v → n < number v) → (vs : List V) → AllByRecursion P vs → AllAbove number n vs
  above is [] all = tt
  above is (v ∷ vs) all = (is v all.0, above is vs all.1)

  below : ((v : V) → P v → number v < n) → (vs : List V) → AllByRecursion P vs → AllBelow number n vs
  below is [] all = tt
  below is (v ∷ vs) all = (is v all.0, below is vs all.1)

module _ {V : Type 0} (number : V → ℕ) where
  rise : (vs : List V) → Pairs (λ (v w : V). number v < number w) vs → Rises number vs
  rise [] pairs = tt
  rise (v ∷ vs) pairs = (above number (number v) (λ (w : V). number v < number w) (λ w less. less) vs pairs.0, rise vs pairs.1)

pub sound_is_ordered : (b : BookView) → IsSound b → IsOrdered b
sound_is_ordered b sound =
    let rows = recursion_from_All (IsSoundRow b.termini b.next_row) b.rows sound.rows in
    let termini = recursion_from_All (IsSoundTerminus b.next_terminus) b.termini sound.termini in
    record {
      rows_rise = rise number_of_row b.rows (pairs_of (λ (r s : Row). r.number.0 < s.number.0) b.rows sound.rows_rise);
      rows_below = below number_of_row b.next_row (IsSoundRow b.termini b.next_row) (λ r is. is.below) b.rows rows;
      termini_rise = rise number_of_terminus b.termini (pairs_of (λ (t u : Terminus). t.number.0 < u.number.0) b.termini sound.termini_rise);
      termini_below = below number_of_terminus b.next_terminus (IsSoundTerminus b.next_terminus) (λ t is. is.below) b.termini termini;
      termini_above = above number_of_terminus 0 (IsSoundTerminus b.next_terminus) (λ t is. is.above) b.termini termini;
      next_above = sound.next_terminus;
    }
