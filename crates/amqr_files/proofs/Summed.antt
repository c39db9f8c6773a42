-- What the list of a book's acts tells of it.
use Rattle.std.proofs.Common.{◌≡◌, ◌∙◌, refl, ap, Bool, true, false, List, [], ◌∷◌, ◌++◌, append-nil}
use Rattle.std.proofs.lemmas.List.Concat.{flat_map-append}
use Rattle.std.specs.Prelude.{map, flat_map, Option, Some, None}
use Rattle.amqp_model.specs.declared.state.DeliveryState.{DeliveryState}
use Rattle.book_model.specs.Book.{BookView}
use Rattle.book_model.specs.Restoring.{acts_of_book, row_acts, decide_acts, forget_acts}
use Rattle.book_model.specs.declared.act.Act.TheVariants.{Make}
use Rattle.book_model.specs.declared.row.Row.{Row}
use Rattle.book_model.specs.declared.row.RowNumber.{RowNumber}
use Rattle.book_model.specs.declared.terminus.Terminus.{Terminus as ATerminus}
use Rattle.amqr_files.specs.Summaries.{act_lines, termini_lines}
use Rattle.amqr_files.specs.declared.summary.SummaryLine.{SummaryLine}
use Rattle.amqr_files.specs.declared.summary.SummaryLine.TheVariants.{Terminus}

-- each terminus is made
made : (ts : List ATerminus) → flat_map act_lines (map Make ts) ≡ map Terminus ts
made [] = refl
made (t ∷ ts) = ap (λ (lines : List SummaryLine). Terminus t ∷ lines) (made ts)

-- and no act of a row makes one
none_decided : (n : RowNumber) (outcome : Option DeliveryState) → flat_map act_lines (decide_acts n outcome) ≡ []
none_decided n None = refl
none_decided n (Some outcome) = refl

none_forgotten : (n : RowNumber) (forgotten : Bool) → flat_map act_lines (forget_acts n forgotten) ≡ []
none_forgotten n true = refl
none_forgotten n false = refl

none_of_row : (r : Row) → flat_map act_lines (row_acts r) ≡ []
none_of_row r =
    flat_map-append act_lines (decide_acts r.number r.outcome) (forget_acts r.number r.forgotten)
    ∙ ap (λ (lines : List SummaryLine). lines ++ flat_map act_lines (forget_acts r.number r.forgotten)) (none_decided r.number r.outcome)
    ∙ none_forgotten r.number r.forgotten

none_of_rows : (rs : List Row) → flat_map act_lines (flat_map row_acts rs) ≡ []
none_of_rows [] = refl
none_of_rows (r ∷ rs) =
    flat_map-append act_lines (row_acts r) (flat_map row_acts rs)
    ∙ ap (λ (lines : List SummaryLine). lines ++ flat_map act_lines (flat_map row_acts rs)) (none_of_row r)
    ∙ none_of_rows rs

-- the acts of a book make its termini
pub made_in_acts : (b : BookView) → flat_map act_lines (acts_of_book b) ≡ termini_lines b
made_in_acts b =
    flat_map-append act_lines (map Make b.termini) (flat_map row_acts b.rows)
    ∙ ap (λ (lines : List SummaryLine). lines ++ flat_map act_lines (flat_map row_acts b.rows)) (made b.termini)
    ∙ ap (λ (lines : List SummaryLine). map Terminus b.termini ++ lines) (none_of_rows b.rows)
    ∙ append-nil (map Terminus b.termini)
