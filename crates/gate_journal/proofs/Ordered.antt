-- A book that acts made from nothing: its numbers rise from 1, and its reserve follows the acts.
use Rattle.std.proofs.Common.{◌≡◌, ℕ, ◌<◌, Bool, true, false, cond, not, List, [], ◌∷◌, Option, Some, None, refl, sym, ap, subst, arith}
use Rattle.std.specs.Prelude.{filter_map, is_some, ◌==◌}
use Rattle.std.specs.List.{cons_option}
use Rattle.amqp_model.specs.declared.state.DeliveryState.{DeliveryState}
use Rattle.book_model.specs.declared.act.Act.{Act}
use Rattle.book_model.specs.declared.act.Act.TheVariants.{Make, Admit, Decide, Forget, Drop}
use Rattle.book_model.specs.declared.row.Row.{Row}
use Rattle.book_model.specs.Book.{BookView, empty_book, refusal, effect, decided, forgotten, admitted}
use Rattle.book_core.specs.Rising.{Rises, AllAbove, AllBelow}
use Rattle.book_core.proofs.Shown as shown
use Rattle.book_core.proofs.Steps.{makes_next, admits_next}
use Rattle.gate_journal.specs.Ordered.{IsOrdered, number_of_row, number_of_terminus}

pub empty_ordered : IsOrdered empty_book
empty_ordered = record { rows_rise = tt; rows_below = tt; termini_rise = tt; termini_below = tt; termini_above = tt; next_above = omega arith }

-- A change of one that keeps its number.
module _ {V : Type 0} (number : V → ℕ) (n : ℕ) (change : V → Option V) (same : (v w : V) → change v ≡ Some w → number w ≡ number v) where
  abbrev step : V → Option V
  step v = cond (number v == n) (change v) (Some v)

  step_same : (v w : V) → step v ≡ Some w → number w ≡ number v
  step_same v w = by_test (number v == n)
    where
      by_test : (b : Bool) → cond b (change v) (Some v) ≡ Some w → number w ≡ number v
      by_test true e = same v w e
      by_test false e = sym (ap number (let f : v ≡ w = cc in f))

  above_changed : (m : ℕ) (vs : List V) → AllAbove number m vs → AllAbove number m (filter_map step vs)
  above_changed m [] h = tt
  above_changed m (v ∷ vs) h = by_value (step v) refl (above_changed m vs h.1)
    where
      by_value : (o : Option V) → step v ≡ o → AllAbove number m (filter_map step vs) → AllAbove number m (cons_option o (filter_map step vs))
      by_value None e rest = rest
      by_value (Some w) e rest = (let above : m < number v = h.0 in omega (arith, above, step_same v w e), rest)

  below_changed : (m : ℕ) (vs : List V) → AllBelow number m vs → AllBelow number m (filter_map step vs)
  below_changed m [] h = tt
  below_changed m (v ∷ vs) h = by_value (step v) refl (below_changed m vs h.1)
    where
      by_value : (o : Option V) → step v ≡ o → AllBelow number m (filter_map step vs) → AllBelow number m (cons_option o (filter_map step vs))
      by_value None e rest = rest
      by_value (Some w) e rest = (let below : number v < m = h.0 in omega (arith, below, step_same v w e), rest)

  rises_changed : (vs : List V) → Rises number vs → Rises number (filter_map step vs)
  rises_changed [] h = tt
  rises_changed (v ∷ vs) h = by_value (step v) refl (rises_changed vs h.1)
    where
      by_value : (o : Option V) → step v ≡ o → Rises number (filter_map step vs) → Rises number (cons_option o (filter_map step vs))
      by_value None e rest = rest
      by_value (Some w) e rest = (let P : ℕ → Type 0 = λ m. AllAbove number m (filter_map step vs) in subst P (sym (step_same v w e)) (above_changed (number v) vs h.0), rest)

decided_same : (o : DeliveryState) (r s : Row) → decided o r ≡ Some s → number_of_row s ≡ number_of_row r
decided_same o r s = by_test r.forgotten
  where
    by_test : (b : Bool) → cond b None (Some (record r { outcome = Some o })) ≡ Some s → number_of_row s ≡ number_of_row r
    by_test true e = absurd cc
    by_test false e = sym (ap number_of_row (let f : record r { outcome = Some o } ≡ s = cc in f))

forgotten_same : (r s : Row) → forgotten r ≡ Some s → number_of_row s ≡ number_of_row r
forgotten_same r s = by_test (is_some r.outcome)
  where
    by_test : (b : Bool) → cond b None (Some (record r { forgotten = true })) ≡ Some s → number_of_row s ≡ number_of_row r
    by_test true e = absurd cc
    by_test false e = sym (ap number_of_row (let f : record r { forgotten = true } ≡ s = cc in f))

pub ordered_step : (b : BookView) (act : Act) → IsOrdered b → refusal b act ≡ None → IsOrdered (effect b act)
ordered_step b (Make t) h r =
    let next = makes_next b t r in
    record {
      rows_rise = h.rows_rise;
      rows_below = h.rows_below;
      termini_rise = shown.rises_more number_of_terminus b.next_terminus b.termini t h.termini_rise h.termini_below next;
      termini_below = shown.below_more_number number_of_terminus b.next_terminus b.termini t h.termini_below next;
      termini_above = shown.above_more number_of_terminus 0 b.termini t h.termini_above (omega (arith, h.next_above, next));
      next_above = omega arith;
    }
ordered_step b (Admit a) h r =
    let next = admits_next b a r in
    record {
      rows_rise = shown.rises_more number_of_row b.next_row b.rows (admitted a) h.rows_rise h.rows_below next;
      rows_below = shown.below_more_number number_of_row b.next_row b.rows (admitted a) h.rows_below next;
      termini_rise = h.termini_rise;
      termini_below = h.termini_below;
      termini_above = h.termini_above;
      next_above = h.next_above;
    }
ordered_step b (Decide d) h r = record {
  rows_rise = rises_changed number_of_row d.row.0 (decided d.outcome) (decided_same d.outcome) b.rows h.rows_rise;
  rows_below = below_changed number_of_row d.row.0 (decided d.outcome) (decided_same d.outcome) b.next_row b.rows h.rows_below;
  termini_rise = h.termini_rise;
  termini_below = h.termini_below;
  termini_above = h.termini_above;
  next_above = h.next_above;
}
ordered_step b (Forget n) h r = record {
  rows_rise = rises_changed number_of_row n.0 forgotten forgotten_same b.rows h.rows_rise;
  rows_below = below_changed number_of_row n.0 forgotten forgotten_same b.next_row b.rows h.rows_below;
  termini_rise = h.termini_rise;
  termini_below = h.termini_below;
  termini_above = h.termini_above;
  next_above = h.next_above;
}
ordered_step b (Drop n) h r = record {
  rows_rise = h.rows_rise;
  rows_below = h.rows_below;
  termini_rise = shown.rises_filter number_of_terminus (λ t. not (t.number.0 == n.0)) b.termini h.termini_rise;
  termini_below = shown.below_filter number_of_terminus b.next_terminus (λ t. not (t.number.0 == n.0)) b.termini h.termini_below;
  termini_above = shown.above_filter number_of_terminus 0 (λ t. not (t.number.0 == n.0)) b.termini h.termini_above;
  next_above = h.next_above;
}
