-- How the index of a book relates to its rows.
use Rattle.std.specs.Prelude.{◌≡◌, ℕ, Bool, ◌==◌, Option, None, Some, List, count_by, if◌then◌else◌}
use Rattle.std.specs.BTreeMap.{get}
use Rattle.std.specs.Ordering.{nat_cmp}
use Rattle.book_model.specs.Book.{is_from, keeps}
use Rattle.book_core.specs.Named.{name_cmp, AllNamed}
use Rattle.book_core.specs.Numbers.{number_at, earlier}
use Rattle.book_model.specs.declared.row.Row.{Row}
use Rattle.book_core.specs.declared.row_index.RowIndex.{RowIndex}
use Rattle.book_model.specs.declared.terminus.LinkRole.TheVariants.{Producer, Consumer}
use Rattle.book_model.specs.declared.terminus.TerminusNumber.{TerminusNumber}

-- one for this terminus, and none for others
abbrev pub one_for : Option TerminusNumber → ℕ → ℕ
one_for None n = 0
one_for (Some t) n = if t.0 == n then 1 else 0

-- the terminus that has one row less, if the row left
abbrev pub left_by : Bool → Row → Option TerminusNumber
left_by leaves r = if leaves then Some r.producer else None

-- the index is that of these rows
pub record IsIndexed (index : RowIndex) (rs : List Row) : Type 0 where
  pub named : AllNamed index.names rs
  pub from : (n : ℕ) → number_at nat_cmp index.from n ≡ count_by (is_from n) rs
  pub unforgotten : (n : ℕ) → number_at nat_cmp index.unforgotten n ≡ count_by (keeps Producer n) rs
  pub waiting : (n : ℕ) → number_at nat_cmp index.waiting n ≡ count_by (keeps Consumer n) rs

-- what stood before is what stood before
pub record SameIndexBefore (old new : RowIndex) : Type 0 where
  pub names : earlier name_cmp new.names.log.items (get name_cmp new.names.numbers) ≡ earlier name_cmp old.names.log.items (get name_cmp old.names.numbers)
  pub from : earlier nat_cmp new.from.log.items (get nat_cmp new.from.numbers) ≡ earlier nat_cmp old.from.log.items (get nat_cmp old.from.numbers)
  pub unforgotten : earlier nat_cmp new.unforgotten.log.items (get nat_cmp new.unforgotten.numbers) ≡ earlier nat_cmp old.unforgotten.log.items (get nat_cmp old.unforgotten.numbers)
  pub waiting : earlier nat_cmp new.waiting.log.items (get nat_cmp new.waiting.numbers) ≡ earlier nat_cmp old.waiting.log.items (get nat_cmp old.waiting.numbers)

-- what stood before the changes since the last commit is what stands
pub record IsIndexSettled (index : RowIndex) : Type 0 where
  pub names : earlier name_cmp index.names.log.items (get name_cmp index.names.numbers) ≡ get name_cmp index.names.numbers
  pub from : earlier nat_cmp index.from.log.items (get nat_cmp index.from.numbers) ≡ get nat_cmp index.from.numbers
  pub unforgotten : earlier nat_cmp index.unforgotten.log.items (get nat_cmp index.unforgotten.numbers) ≡ get nat_cmp index.unforgotten.numbers
  pub waiting : earlier nat_cmp index.waiting.log.items (get nat_cmp index.waiting.numbers) ≡ get nat_cmp index.waiting.numbers

-- what stands is what stood before the changes
pub record IsIndexBack (old new : RowIndex) : Type 0 where
  pub names : get name_cmp new.names.numbers ≡ earlier name_cmp old.names.log.items (get name_cmp old.names.numbers)
  pub from : get nat_cmp new.from.numbers ≡ earlier nat_cmp old.from.log.items (get nat_cmp old.from.numbers)
  pub unforgotten : get nat_cmp new.unforgotten.numbers ≡ earlier nat_cmp old.unforgotten.log.items (get nat_cmp old.unforgotten.numbers)
  pub waiting : get nat_cmp new.waiting.numbers ≡ earlier nat_cmp old.waiting.log.items (get nat_cmp old.waiting.numbers)
