-- Two files that stop together: the contents of both, and what is said of one of them.
-- Source: the project's own disk model, described in docs/disk.md.
use Rattle.std.specs.Prelude.{◌≡◌, ℕ, List, [], ◌∷◌, ◌++◌}
use Rattle.disk_core.specs.declared.side.Side.{Side}
use Rattle.disk_core.specs.declared.side.Side.TheVariants.{First, Second}

-- own numbering, with which the names of files end
abbrev pub side_number : Side → ℕ
side_number First = 0
side_number Second = 1

-- the name of a side's file: a dot and the side's number after the name of both
abbrev pub file_name : List ℕ → Side → List ℕ
file_name name First = name ++ 46 ∷ 48 ∷ []
file_name name Second = name ++ 46 ∷ 49 ∷ []

abbrev pub other : Side → Side
other First = Second
other Second = First

-- the bytes of each side
abbrev pub Contents : Type 0
Contents = Side → List ℕ

-- what a crash may leave of one side: the bytes that it has in an outcome of both
pub record OnSide (side : Side) (outcomes : Contents → Type 0) (file : List ℕ) : Type 0 where
  pub both : Contents
  pub outcome : outcomes both
  pub is : both side ≡ file
