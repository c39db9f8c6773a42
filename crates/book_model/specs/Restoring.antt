-- Reading a book back: from which lists of acts, to which book, and the list that a book stands for.
use Rattle.std.specs.Prelude.{ℕ, Bool, ◌&&◌, ◌||◌, not, nat_lt, nat_le, if◌then◌else◌, Option, Some, None, is_some, List, [], ◌∷◌, ◌++◌, length, map, flat_map, count_by}
use Rattle.std.specs.List.{list_any, list_all}
use Rattle.amqp_model.specs.declared.state.DeliveryState.{DeliveryState}
use Rattle.book_model.specs.declared.act.Act.{Act}
use Rattle.book_model.specs.declared.act.Act.TheVariants.{Make, Admit, Decide, Forget, Drop}
use Rattle.book_model.specs.declared.act.Admission.{Admission}
use Rattle.book_model.specs.declared.fault.BookFault.{BookFault}
use Rattle.book_model.specs.declared.fault.BookFault.TheVariants.{NoTerminus, NoRow, TagInUse, Limit}
use Rattle.book_model.specs.declared.row.Row.{Row}
use Rattle.book_model.specs.declared.row.RowNumber.{RowNumber}
use Rattle.book_model.specs.declared.terminus.LinkRole.TheVariants.{Producer}
use Rattle.book_model.specs.declared.terminus.Terminus.{Terminus}
use Rattle.book_model.specs.Book.{BookView, empty_book, refusal, effect, make_refusal, has_role, may_bind, terminus_at, has_tag, is_from, undecided_for, unless, or_else}

-- Acts are read one after another, the first to the empty book. Numbers may be left out, so the next one of a book that
-- is being read back is the one after the last that was read.

-- a number above the last one that was read, and below the next one given
abbrev pub is_between : ℕ → ℕ → ℕ → Bool
is_between after_last next n = nat_le after_last n && nat_lt n next

-- the book, whose next number is raised to the one that an act makes or admits
abbrev pub raised : BookView → Act → BookView
raised b (Make t) = record b { next_terminus = t.number.0 }
raised b (Admit a) = record b { next_row = a.row.0 }
raised b (Decide d) = b
raised b (Forget n) = b
raised b (Drop n) = b

-- Why an act isn't read, if these numbers come next. What an Admit says of termini, and the limits of 64, are tested at
-- the end.
abbrev pub restore_make_refusal : ℕ → BookView → Terminus → Option BookFault
restore_make_refusal next b t =
    unless (is_between b.next_terminus next t.number.0) NoTerminus (make_refusal (raised b (Make t)) t)

abbrev pub restore_admit_refusal : ℕ → BookView → Admission → Option BookFault
restore_admit_refusal next b a =
    unless (is_between b.next_row next a.row.0) NoRow (
    unless (not (list_any (has_tag a.producer.0 a.tag.items) b.rows)) TagInUse (
    unless (nat_lt (length b.rows) 4096) Limit (
    unless (nat_le (length a.payload) 65536) Limit None)))

abbrev pub restore_refusal : ℕ → ℕ → BookView → Act → Option BookFault
restore_refusal next_terminus next_row b (Make t) = restore_make_refusal next_terminus b t
restore_refusal next_terminus next_row b (Admit a) = restore_admit_refusal next_row b a
restore_refusal next_terminus next_row b (Decide d) = refusal b (Decide d)
restore_refusal next_terminus next_row b (Forget n) = refusal b (Forget n)
restore_refusal next_terminus next_row b (Drop n) = refusal b (Drop n)

-- what an act does to a book that is being read back
abbrev pub restore_effect : BookView → Act → BookView
restore_effect b act = effect (raised b act) act

-- the fault of the first act that isn't read
unfoldable pub first_unread : ℕ → ℕ → BookView → List Act → Option BookFault
first_unread next_terminus next_row b [] = None
first_unread next_terminus next_row b (act ∷ acts) =
    or_else (restore_refusal next_terminus next_row b act)
    (first_unread next_terminus next_row (restore_effect b act) acts)

-- the book after these acts
unfoldable pub book_read : BookView → List Act → BookView
book_read b [] = b
book_read b (act ∷ acts) = book_read (restore_effect b act) acts

-- The end.

-- a row is within the limits of 64: the rows of its producer's terminus, and the undecided ones of its consumer's
abbrev pub is_within : List Row → Row → Bool
is_within rs r = nat_le (count_by (is_from r.producer.0) rs) 64 && nat_le (undecided_for r.consumer rs) 64

-- the termini that a row keeps stand, each in its role: its producer's until it is forgotten, its consumer's until it
-- is decided
abbrev pub has_termini : List Terminus → Row → Bool
has_termini ts r = (r.forgotten || has_role Producer (terminus_at r.producer.0 ts)) &&
    (is_some r.outcome || may_bind r.consumer ts)

-- why a book isn't whole after its last act
abbrev pub closing_fault : BookView → Option BookFault
closing_fault b =
    unless (list_all (is_within b.rows) b.rows) Limit (
    unless (list_all (has_termini b.termini) b.rows) NoTerminus None)

-- Why acts aren't read back as a book with these next numbers: the first fault.
abbrev pub restore_fault : ℕ → ℕ → List Act → Option BookFault
restore_fault next_terminus next_row acts =
    unless (nat_lt 0 next_terminus) NoTerminus (
    unless (nat_lt 0 next_row) NoRow (
    or_else (first_unread next_terminus next_row empty_book acts) (closing_fault (book_read empty_book acts))))

-- The book that acts are read back as.
abbrev pub restored : ℕ → ℕ → List Act → BookView
restored next_terminus next_row acts =
    record (book_read empty_book acts) { next_terminus = next_terminus; next_row = next_row }

-- The list of a book.

-- the Admit of a row
abbrev pub admission_of : Row → Admission
admission_of r = record {
  row = r.number;
  producer = r.producer;
  tag = r.tag;
  consumer = r.consumer;
  format = r.format;
  payload = r.payload;
}

-- its Decide, if it is decided
abbrev pub decide_acts : RowNumber → Option DeliveryState → List Act
decide_acts n None = []
decide_acts n (Some outcome) = Decide (record { row = n; outcome = outcome }) ∷ []

-- its Forget, if it is forgotten
abbrev pub forget_acts : RowNumber → Bool → List Act
forget_acts n forgotten = if forgotten then Forget n ∷ [] else []

abbrev pub row_acts : Row → List Act
row_acts r = Admit (admission_of r) ∷ decide_acts r.number r.outcome ++ forget_acts r.number r.forgotten

-- The acts that a book stands for: its termini by number, then its rows by number, each with what was done to it.
abbrev pub acts_of_book : BookView → List Act
acts_of_book b = map Make b.termini ++ flat_map row_acts b.rows
