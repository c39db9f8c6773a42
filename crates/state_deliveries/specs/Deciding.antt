-- Which rows changes of deliveries would decide, before they are made; and the rows of a producer's deliveries.
use Rattle.std.specs.Prelude.{ℕ, zero, suc, ◌+◌, Bool, false, ◌||◌, if◌then◌else◌, List, [], ◌∷◌, ◌++◌, Option, Some, None}
use Rattle.amqp_model.specs.declared.state.DeliveryState.{DeliveryState}
use Rattle.book_model.specs.declared.act.Decision.{Decision}
use Rattle.book_model.specs.declared.row.RowNumber.{RowNumber}
use Rattle.router_trace.specs.declared.binding.DeliveryName.{DeliveryName}
use Rattle.router_trace.specs.declared.binding.DeliveryName.TheVariants.{Row, Counter}
use Rattle.router_trace.specs.Trace.{Trace}
use Rattle.router_trace.specs.Deliveries.{Delivery, is_undecided, bindings, delivery}
use Rattle.state_deliveries.specs.declared.change.Change.{Change}
use Rattle.state_deliveries.specs.declared.change.Change.TheVariants as change
use Rattle.state_deliveries.specs.Indexing.{Keys, concerns}
use Rattle.state_deliveries.specs.Placing.{is_id_there}
use Rattle.state_deliveries.specs.Stepping.{changed}

-- what each number below this one gives, in order of the numbers
unfoldable pub gathered_below : {A : Type 0} → ℕ → (ℕ → List A) → List A
gathered_below zero gives = []
gathered_below (suc n) gives = gathered_below n gives ++ gives n

-- a delivery after changes, one after another
abbrev pub changed_by : List Change → Delivery → Delivery
changed_by [] d = d
changed_by (x ∷ xs) d = changed_by xs (changed x d)

-- a delivery without its message and its outcome
abbrev pub bare : Delivery → Delivery
bare d = record d { payload = []; outcome = None }

-- the row of a durable delivery
abbrev pub row_of : DeliveryName → Option RowNumber
row_of (Row r) = Some r
row_of (Counter k) = None

-- the decision of a row, if it has one and there is an outcome
abbrev pub outcome_of_row : RowNumber → Option DeliveryState → List Decision
outcome_of_row r None = []
outcome_of_row r (Some made) = record { row = r; outcome = made } ∷ []

abbrev pub outcome_of : Option RowNumber → Option DeliveryState → List Decision
outcome_of None made = []
outcome_of (Some r) made = outcome_of_row r made

-- the row of a delivery that is undecided and has one
abbrev pub open_row : Delivery → Option RowNumber
open_row d = if is_undecided d then row_of d.name else None

-- what changes decide of a delivery: an undecided one with a row, that has an outcome after them
abbrev pub decision_of : List Change → Option Delivery → List Decision
decision_of xs None = []
decision_of xs (Some d) = outcome_of (open_row d) (changed_by xs d).outcome

-- the rows that changes would decide, with their outcomes, in order of the deliveries' numbers
abbrev pub decided_rows : Trace → List Change → List Decision
decided_rows t xs = gathered_below (bindings t + 1) (λ n. decision_of xs (delivery t n))

-- a change may decide the row of a delivery with these entries
abbrev pub decides : Change → Keys → Bool
decides (change.Ends g closed) k = concerns (change.Ends g closed) k
decides (change.Untold c o first last) k = concerns (change.Untold c o first last) k
decides (change.Told c o first last) k = concerns (change.Told c o first last) k
decides (change.Decided c o first last made) k = is_id_there c o first last k.consumer.durable

-- one of these changes may decide it
abbrev pub decide : List Change → Keys → Bool
decide [] k = false
decide (x ∷ xs) k = decides x k || decide xs k
