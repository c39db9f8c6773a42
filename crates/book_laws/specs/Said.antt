-- What a list of acts says, oldest first: which rows it admits, decides and forgets, which termini it makes and drops,
-- and which of them still stand. Each word searches the list; none of them knows a book.
use Rattle.std.specs.Prelude.{◌≡◌, ℕ, ◌==◌, Bool, not, ◌&&◌, if◌then◌else◌, Option, Some, None, is_some, option_map, List, find, filter, filter_map, map, count_by}
use Rattle.std.specs.List.{list_any}
use Rattle.amqp_model.specs.declared.state.DeliveryState.{DeliveryState}
use Rattle.book_model.specs.declared.act.Act.{Act}
use Rattle.book_model.specs.declared.act.Act.TheVariants.{Make, Admit, Decide, Forget, Drop}
use Rattle.book_model.specs.declared.act.Admission.{Admission}
use Rattle.book_model.specs.declared.act.Decision.{Decision}
use Rattle.book_model.specs.declared.row.Row.{Row}
use Rattle.book_model.specs.declared.row.RowNumber.{RowNumber}
use Rattle.book_model.specs.declared.terminus.LinkKey.{LinkKey}
use Rattle.book_model.specs.declared.terminus.Terminus.{Terminus}
use Rattle.book_model.specs.declared.terminus.TerminusNumber.{TerminusNumber}
use Rattle.book_model.specs.Book.{BookView, empty_book, first_fault, effects, admitted, same_key, same_bytes}

-- each of these acts applies in turn, to the empty book at first
abbrev pub Apply : List Act → Type 0
Apply acts = first_fault empty_book acts ≡ None

-- the book that these acts make of the empty one
abbrev pub book_of : List Act → BookView
book_of acts = effects empty_book acts

-- The acts of one kind.

-- the terminus of a Make, and so on
abbrev pub make_of : Act → Option Terminus
make_of (Make t) = Some t
make_of _ = None

abbrev pub admit_of : Act → Option Admission
admit_of (Admit a) = Some a
admit_of _ = None

abbrev pub decide_of : Act → Option Decision
decide_of (Decide d) = Some d
decide_of _ = None

abbrev pub forget_of : Act → Option RowNumber
forget_of (Forget n) = Some n
forget_of _ = None

abbrev pub drop_of : Act → Option TerminusNumber
drop_of (Drop n) = Some n
drop_of _ = None

-- the termini of the Makes among acts, in their order, and so on
abbrev pub makes_in : List Act → List Terminus
makes_in acts = filter_map make_of acts

abbrev pub admits_in : List Act → List Admission
admits_in acts = filter_map admit_of acts

abbrev pub decides_in : List Act → List Decision
decides_in acts = filter_map decide_of acts

abbrev pub forgets_in : List Act → List RowNumber
forgets_in acts = filter_map forget_of acts

abbrev pub drops_in : List Act → List TerminusNumber
drops_in acts = filter_map drop_of acts

-- The row of a number.

-- how often it is admitted, decided, forgotten
abbrev pub times_admitted : List Act → ℕ → ℕ
times_admitted acts n = count_by (λ a. a.row.0 == n) (admits_in acts)

abbrev pub times_decided : List Act → ℕ → ℕ
times_decided acts n = count_by (λ d. d.row.0 == n) (decides_in acts)

abbrev pub times_forgotten : List Act → ℕ → ℕ
times_forgotten acts n = count_by (λ m. m.0 == n) (forgets_in acts)

-- its Admit
abbrev pub admission : List Act → ℕ → Option Admission
admission acts n = find (λ a. a.row.0 == n) (admits_in acts)

-- the outcome of its Decide
abbrev pub decision : List Act → ℕ → Option DeliveryState
decision acts n = option_map (λ d. d.outcome) (find (λ d. d.row.0 == n) (decides_in acts))

-- whether a Forget names it
abbrev pub is_forgotten : List Act → ℕ → Bool
is_forgotten acts n = list_any (λ m. m.0 == n) (forgets_in acts)

-- whether it isn't both decided and forgotten
abbrev pub is_open : List Act → ℕ → Bool
is_open acts n = not (is_some (decision acts n) && is_forgotten acts n)

-- an admitted row as acts leave it: with the fields of its Admit and the outcome of its Decide, forgotten if a Forget
-- names it
abbrev pub row_of : List Act → Admission → Row
row_of acts a = record (admitted a) { outcome = decision acts a.row.0; forgotten = is_forgotten acts a.row.0 }

-- what acts leave of the row of a number: the row that is admitted, as long as it is open
abbrev pub row_said : List Act → ℕ → Option Row
row_said acts n = if is_open acts n then option_map (row_of acts) (admission acts n) else None

-- all rows that acts leave, in the order of their Admits
abbrev pub rows_said : List Act → List Row
rows_said acts = map (row_of acts) (filter (λ a. is_open acts a.row.0) (admits_in acts))

-- whether an Admit is from this producer's terminus and under this tag, and no Forget names its row
abbrev pub stands_under : List Act → ℕ → List ℕ → Admission → Bool
stands_under acts producer tag a = a.producer.0 == producer && not (is_forgotten acts a.row.0)
    && same_bytes a.tag.items tag

-- the row admitted for a producer's terminus under a tag that no Forget names
abbrev pub standing_row : List Act → ℕ → List ℕ → Option Row
standing_row acts producer tag = option_map (row_of acts) (find (stands_under acts producer tag) (admits_in acts))

-- how many there are
abbrev pub times_standing : List Act → ℕ → List ℕ → ℕ
times_standing acts producer tag = count_by (stands_under acts producer tag) (admits_in acts)

-- The terminus of a number, and of a key.

-- how often it is made, dropped
abbrev pub times_made : List Act → ℕ → ℕ
times_made acts n = count_by (λ t. t.number.0 == n) (makes_in acts)

abbrev pub times_dropped : List Act → ℕ → ℕ
times_dropped acts n = count_by (λ m. m.0 == n) (drops_in acts)

-- its Make
abbrev pub made : List Act → ℕ → Option Terminus
made acts n = find (λ t. t.number.0 == n) (makes_in acts)

-- whether a Drop names it
abbrev pub is_dropped : List Act → ℕ → Bool
is_dropped acts n = list_any (λ m. m.0 == n) (drops_in acts)

-- what acts leave of the terminus of a number: the one that is made, as long as no Drop names it
abbrev pub terminus_said : List Act → ℕ → Option Terminus
terminus_said acts n = if is_dropped acts n then None else made acts n

-- all termini that acts leave, in the order of their Makes
abbrev pub termini_said : List Act → List Terminus
termini_said acts = filter (λ t. not (is_dropped acts t.number.0)) (makes_in acts)

-- whether a Make is of this key, and no Drop names its terminus
abbrev pub stands_at : List Act → LinkKey → Terminus → Bool
stands_at acts key t = not (is_dropped acts t.number.0) && same_key t.key key

-- the terminus made for a key that no Drop names
abbrev pub standing_terminus : List Act → LinkKey → Option Terminus
standing_terminus acts key = find (stands_at acts key) (makes_in acts)

-- how many there are
abbrev pub termini_standing : List Act → LinkKey → ℕ
termini_standing acts key = count_by (stands_at acts key) (makes_in acts)
