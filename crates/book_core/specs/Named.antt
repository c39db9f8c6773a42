-- How rows are found by name.
use Rattle.std.specs.Prelude.{◌≡◌, false, List}
use Rattle.std.specs.Cmp.Lexicographic.{slice_cmp}
use Rattle.std.specs.List.{AllByRecursion}
use Rattle.std.specs.Ordering.{nat_cmp, ordering_then}
use Rattle.std.specs.declared.cmp.Ordering.{Ordering}
use Rattle.book_core.specs.declared.numbers.Numbers.{Numbers}
use Rattle.book_model.specs.declared.row.Row.{Row}
use Rattle.book_core.specs.declared.row_name.RowName.{RowName}
use Rattle.book_core.specs.Numbers.{number_at}

-- by producer, and then by tag
abbrev pub name_cmp : RowName → RowName → Ordering
name_cmp a b = ordering_then (nat_cmp a.producer b.producer) (slice_cmp nat_cmp a.tag.items b.tag.items)

abbrev pub name_of : Row → RowName
name_of r = record { producer = r.producer.0; tag = r.tag }

-- the number of a row is at its name, unless the row is forgotten
abbrev pub IsNamed : Numbers RowName → Row → Type 0
IsNamed names r = r.forgotten ≡ false → number_at name_cmp names (name_of r) ≡ r.number.0

abbrev pub AllNamed : Numbers RowName → List Row → Type 0
AllNamed names = AllByRecursion (IsNamed names)
