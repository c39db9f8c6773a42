-- How the tables of a book relate to what it shows.
use Rattle.std.specs.Prelude.{◌≡◌, ℕ, false, List, Option, Some, None, Result, Ok, Err, filter_map, length}
use Rattle.book_model.specs.declared.fault.BookFault.{BookFault}
use Rattle.book_model.specs.declared.fault.BookFault.TheVariants.{Memory}
use Rattle.book_core.specs.declared.slot.RowSlot.{RowSlot}
use Rattle.book_core.specs.declared.slot.TerminusSlot.{TerminusSlot}
use Rattle.book_core.specs.declared.tables.Tables.{Tables}
use Rattle.std.specs.List.{list_any}
use Rattle.book_model.specs.declared.act.Admission.{Admission}
use Rattle.book_model.specs.Book.{BookView, refusal, effect, first_fault, effects, has_tag}
use Rattle.book_model.specs.declared.act.Act.{Act}
use Rattle.std.specs.BTreeMap.{get}
use Rattle.book_core.specs.Keys.{AllKeyed}
use Rattle.book_model.specs.Keys.{key_cmp}
use Rattle.book_model.specs.Sound.{IsSound}
use Rattle.book_core.specs.Numbers.{earlier}
use Rattle.book_core.specs.Indexed.{IsIndexed, IsIndexSettled, SameIndexBefore}
use Rattle.book_core.specs.Rising.{Rises, AllBelow}
use Rattle.book_core.specs.Slots.{rows_in, termini_in}
use Rattle.book_core.specs.Table.{before}

abbrev pub row_number : RowSlot → ℕ
row_number s = s.number

abbrev pub terminus_number : TerminusSlot → ℕ
terminus_number s = s.number

-- the tables show this book
pub record Shows (t : Tables) (b : BookView) : Type 0 where
  pub termini : termini_in t.termini.slots.items ≡ b.termini
  pub rows : rows_in t.rows.slots.items ≡ b.rows
  pub next_terminus : t.counters.next_terminus ≡ b.next_terminus
  pub next_row : t.counters.next_row ≡ b.next_row
  pub termini_rise : Rises terminus_number t.termini.slots.items
  pub rows_rise : Rises row_number t.rows.slots.items
  pub termini_below : AllBelow terminus_number t.counters.next_terminus t.termini.slots.items
  pub rows_below : AllBelow row_number t.counters.next_row t.rows.slots.items
  pub keyed : AllKeyed t.keys (termini_in t.termini.slots.items)
  pub indexed : IsIndexed t.index (rows_in t.rows.slots.items)
  pub terminus_count : t.counters.termini ≡ length (termini_in t.termini.slots.items)
  pub row_count : t.counters.rows ≡ length (rows_in t.rows.slots.items)

-- what stood before the changes since the last commit is what stands
pub record IsSettled (t : Tables) : Type 0 where
  pub termini : before t.termini.log.items t.termini.slots.items ≡ t.termini.slots.items
  pub rows : before t.rows.log.items t.rows.slots.items ≡ t.rows.slots.items
  pub keys : earlier key_cmp t.keys.log.items (get key_cmp t.keys.numbers) ≡ get key_cmp t.keys.numbers
  pub index : IsIndexSettled t.index

-- what stood before is what stood before
pub record SameBefore (old new : Tables) : Type 0 where
  pub termini : before new.termini.log.items new.termini.slots.items ≡ before old.termini.log.items old.termini.slots.items
  pub rows : before new.rows.log.items new.rows.slots.items ≡ before old.rows.log.items old.rows.slots.items
  pub keys : earlier key_cmp new.keys.log.items (get key_cmp new.keys.numbers) ≡ earlier key_cmp old.keys.log.items (get key_cmp old.keys.numbers)
  pub index : SameIndexBefore old.index new.index

-- a row with the next number, under a tag that no unforgotten row of its producer has
pub record IsNew (b : BookView) (a : Admission) : Type 0 where
  pub next : a.row.0 ≡ b.next_row
  pub free : list_any (has_tag a.producer.0 a.tag.items) b.rows ≡ false

-- what a step of one act answers, and what the tables then show
abbrev pub Stepped : Result (Unit {0}) BookFault → Tables → BookView → Act → Type 0
Stepped (Ok done) new b act = (refusal b act ≡ None) × Shows new (effect b act)
Stepped (Err fault) new b act = (fault ≡ Memory → ⊥) → refusal b act ≡ Some fault

-- the same of a list of acts
abbrev pub Ran : Result (Unit {0}) BookFault → Tables → BookView → List Act → Type 0
Ran (Ok done) new b acts = (first_fault b acts ≡ None) × Shows new (effects b acts)
Ran (Err fault) new b acts = (fault ≡ Memory → ⊥) → first_fault b acts ≡ Some fault

-- what reading acts back answers, where this is why they aren't read, and what the tables then show
abbrev pub WasRead : Result (Unit {0}) BookFault → Tables → Option BookFault → BookView → Type 0
WasRead (Ok done) new refusal after = (refusal ≡ None) × Shows new after
WasRead (Err fault) new refusal after = (fault ≡ Memory → ⊥) → refusal ≡ Some fault

-- the book that tables show
abbrev pub shown_by : Tables → BookView
shown_by t = record { termini = termini_in t.termini.slots.items; rows = rows_in t.rows.slots.items; next_terminus = t.counters.next_terminus; next_row = t.counters.next_row }

-- tables between two lists of acts
pub record IsWhole (t : Tables) : Type 0 where
  pub shows : Shows t (shown_by t)
  pub settled : IsSettled t
  pub sound : IsSound (shown_by t)

-- places that show the same, of which some empty ones may be gone
pub record IsSwept {S V : Type 0} (number : S → ℕ) (value : S → Option V) (old new : List S) : Type 0 where
  pub shown : filter_map value new ≡ filter_map value old
  pub rise : Rises number old → Rises number new
  pub below : (n : ℕ) → AllBelow number n old → AllBelow number n new
