-- How what an event decides and forgets is found by the numbers of rows, and which termini a book lets go after it.
use Rattle.std.specs.Prelude.{◌≡◌, ℕ, Bool, false, ◌&&◌, not, if◌then◌else◌, Option, Some, None, is_none, List, [], ◌∷◌}
use Rattle.std.specs.BTreeMap.{get}
use Rattle.std.specs.BTreeSet.{contains}
use Rattle.std.specs.List.{list_any}
use Rattle.std.specs.Ordering.{nat_cmp}
use Rattle.amqp_model.specs.declared.state.DeliveryState.{DeliveryState}
use Rattle.book_model.specs.declared.act.Act.{Act}
use Rattle.book_model.specs.declared.act.Act.TheVariants.{Decide, Forget}
use Rattle.book_model.specs.declared.act.Decision.{Decision}
use Rattle.book_model.specs.declared.row.Row.{Row}
use Rattle.book_model.specs.declared.row.RowNumber.{RowNumber}
use Rattle.book_model.specs.declared.terminus.LinkRole.{LinkRole}
use Rattle.book_model.specs.declared.terminus.LinkRole.TheVariants.{Producer, Consumer}
use Rattle.book_model.specs.declared.terminus.Terminus.{Terminus}
use Rattle.book_model.specs.declared.terminus.TerminusNumber.{TerminusNumber}
use Rattle.book_model.specs.Book.{BookView, is_undecided, keeps, terminus_at}
use Rattle.journal_store.specs.declared.settling.Settling.{Settling}
use Rattle.journal_store.specs.Acting.{outcome_for, is_among, journal_outcome}

-- by number is found what these decisions and these numbers say
pub record Names (s : Settling) (ds : List Decision) (numbers : List RowNumber) : Type 0 where
  pub decided : (n : ℕ) → get nat_cmp s.outcomes n ≡ outcome_for n ds
  pub forgotten : (n : ℕ) → contains nat_cmp s.forgotten n ≡ is_among n numbers

-- the decision of a row that was looked up, and that it is forgotten
abbrev pub found_decision : DeliveryState → Option Row → List Act
found_decision outcome None = []
found_decision outcome (Some r) = if is_undecided r then Decide (record { row = r.number; outcome = journal_outcome outcome }) ∷ [] else []

abbrev pub found_forgotten : Option Row → List Act
found_forgotten None = []
found_forgotten (Some r) = if r.forgotten then [] else Forget r.number ∷ []

-- whether a row still keeps its terminus after these decisions, and after those of these numbers are forgotten
abbrev pub keeps_after : List Decision → List RowNumber → LinkRole → ℕ → Row → Bool
keeps_after ds numbers Producer n r = keeps Producer n r && not (is_among r.number.0 numbers)
keeps_after ds numbers Consumer n r = keeps Consumer n r && is_none (outcome_for r.number.0 ds)

-- whether a terminus that was looked up is there, and kept by no row after them
abbrev pub lets_go_by : List Row → List Decision → List RowNumber → Option Terminus → Bool
lets_go_by rs ds numbers None = false
lets_go_by rs ds numbers (Some t) = not (list_any (keeps_after ds numbers t.key.role t.number.0) rs)

abbrev pub lets_go_after : BookView → List Decision → List RowNumber → TerminusNumber → Bool
lets_go_after b ds numbers n = lets_go_by b.rows ds numbers (terminus_at n.0 b.termini)
