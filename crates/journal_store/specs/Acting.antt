-- The acts of an event: what a router decides of rows, which of them it forgets, and the terminus that it makes or drops. Whatever is
-- asked, what doesn't apply to the book is left out, so that the acts can be written. An admission is a batch of its own.
use Rattle.std.specs.Prelude.{ℕ, Bool, ◌==◌, ◌&&◌, not, if◌then◌else◌, Option, Some, None, is_none, option_map, List, [], ◌∷◌, ◌++◌, filter_map}
use Rattle.std.specs.List.{list_any}
use Rattle.std.specs.Option.{unwrap_or}
use Rattle.amqp_model.specs.declared.state.DeliveryState.{DeliveryState}
use Rattle.book_model.specs.declared.act.Act.{Act}
use Rattle.book_model.specs.declared.act.Act.TheVariants.{Make, Admit, Decide, Forget, Drop}
use Rattle.book_model.specs.declared.act.Admission.{Admission}
use Rattle.book_model.specs.declared.act.Decision.{Decision}
use Rattle.book_model.specs.declared.row.Row.{Row}
use Rattle.book_model.specs.declared.row.RowNumber.{RowNumber}
use Rattle.book_model.specs.Book.{BookView, effects, is_undecided, decided, forgotten, make_refusal, admit_refusal, drop_refusal, terminus_at}
use Rattle.journal_codec.specs.Outcome.{kept_outcome}
use Rattle.journal_store.specs.declared.acting.TerminusAct.{TerminusAct}
use Rattle.journal_store.specs.declared.acting.TerminusAct.TheVariants as terminus
use Rattle.journal_store.specs.Lost.{failed}

-- Rows.

-- the outcome that is written: what the journal keeps of it, and failed where it keeps nothing
abbrev pub journal_outcome : DeliveryState → DeliveryState
journal_outcome s = unwrap_or (kept_outcome s) failed

-- what decisions say of the row of this number: the first of them that names it counts
abbrev pub outcome_for : ℕ → List Decision → Option DeliveryState
outcome_for n [] = None
outcome_for n (d ∷ ds) = if d.row.0 == n then Some d.outcome else outcome_for n ds

-- whether this number is among some
abbrev pub is_among : ℕ → List RowNumber → Bool
is_among n numbers = list_any (λ m. m.0 == n) numbers

-- the decision of a row to an outcome, if one is given
abbrev pub decision : Row → Option DeliveryState → Option Act
decision r = option_map (λ outcome. Decide (record { row = r.number; outcome = journal_outcome outcome }))

-- an undecided row that a decision names is decided
abbrev pub decide_row : List Decision → Row → Option Act
decide_row ds r = if is_undecided r then decision r (outcome_for r.number.0 ds) else None

-- an unforgotten row whose number is among those is forgotten
abbrev pub forget_row : List RowNumber → Row → Option Act
forget_row numbers r = if not r.forgotten && is_among r.number.0 numbers then Some (Forget r.number) else None

-- the rows of the book that are decided, and those that are forgotten, each in the order of their numbers
abbrev pub decides : BookView → List Decision → List Act
decides b ds = filter_map (decide_row ds) b.rows

abbrev pub forgets : BookView → List RowNumber → List Act
forgets b numbers = filter_map (forget_row numbers) b.rows

-- first the decisions, then what is forgotten
abbrev pub settles : BookView → List Decision → List RowNumber → List Act
settles b ds numbers = decides b ds ++ forgets b numbers

-- what becomes of a row: the decision of it, and then that it is forgotten
abbrev pub decided_to : Option DeliveryState → Row → Option Row
decided_to None r = Some r
decided_to (Some outcome) r = decided (journal_outcome outcome) r

abbrev pub decided_by : List Decision → Row → Option Row
decided_by ds r = if is_undecided r then decided_to (outcome_for r.number.0 ds) r else Some r

abbrev pub forgotten_by : List RowNumber → Row → Option Row
forgotten_by numbers r = if not r.forgotten && is_among r.number.0 numbers then forgotten r else Some r

-- the rows after both (`settled_rows_are_known`)
abbrev pub rows_after : List Decision → List RowNumber → List Row → List Row
rows_after ds numbers rs = filter_map (forgotten_by numbers) (filter_map (decided_by ds) rs)

-- Termini.

-- an act, if nothing refuses it
abbrev pub unless_refused : Bool → Act → List Act
unless_refused applies act = if applies then act ∷ [] else []

-- a terminus is made if the book makes it, and dropped if the book lets it go
abbrev pub terminus_acts : BookView → Option TerminusAct → List Act
terminus_acts b None = []
terminus_acts b (Some (terminus.Make t)) = unless_refused (is_none (make_refusal b t)) (Make t)
terminus_acts b (Some (terminus.Drop n)) = unless_refused (is_none (drop_refusal (terminus_at n.0 b.termini) b.rows)) (Drop n)

-- Events.

-- the acts of an event: the terminus' act is that of the book after the rows' acts
abbrev pub event_acts : BookView → List Decision → List RowNumber → Option TerminusAct → List Act
event_acts b ds numbers t = settles b ds numbers ++ terminus_acts (effects b (settles b ds numbers)) t

-- the act of an admission
abbrev pub admission_acts : BookView → Admission → List Act
admission_acts b a = unless_refused (is_none (admit_refusal b a)) (Admit a)
