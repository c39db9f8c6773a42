-- The kind of an act, and what it is about.
use Rattle.std.specs.Prelude.{ℕ}
use Rattle.book_model.specs.declared.act.Act.{Act}
use Rattle.book_model.specs.declared.act.Act.TheVariants.{Make, Admit, Decide, Forget, Drop}
use Rattle.book_model.specs.declared.act.ActKind.{ActKind}
use Rattle.book_model.specs.declared.act.ActKind.TheVariants as kind

-- the kind of an act
abbrev pub kind_of : Act → ActKind
kind_of (Make t) = kind.Make
kind_of (Admit a) = kind.Admit
kind_of (Decide d) = kind.Decide
kind_of (Forget n) = kind.Forget
kind_of (Drop n) = kind.Drop

-- the number of its row, or else of its terminus
abbrev pub number_of : Act → ℕ
number_of (Make t) = t.number.0
number_of (Admit a) = a.row.0
number_of (Decide d) = d.row.0
number_of (Forget n) = n.0
number_of (Drop n) = n.0
