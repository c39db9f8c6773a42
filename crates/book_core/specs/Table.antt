-- What stood in a table before its changes.
use Rattle.std.specs.Prelude.{List, [], ◌∷◌, take, slice_set}
use Rattle.book_core.specs.declared.table.Change.{Change}
use Rattle.book_core.specs.declared.table.Change.TheVariants.{Replaced, Added}

abbrev pub undone : {S : Type 0} → Change S → List S → List S
undone (Replaced at old) slots = slice_set slots at old
undone (Added at) slots = take at slots

-- the slots before these changes, the oldest of which comes first
unfoldable pub before : {S : Type 0} → List (Change S) → List S → List S
before [] slots = slots
before (change ∷ changes) slots = undone change (before changes slots)
