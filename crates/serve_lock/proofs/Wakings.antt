-- Connections in order of their numbers.
use Rattle.std.proofs.Common.{ℕ, ◌<◌, Option, Some, None}
use Rattle.std.specs.Prelude.{⊤}

-- a number is below the next one, if there is a next one
abbrev pub IsBefore : Option ℕ → ℕ → Type 0
IsBefore None c = ⊤
IsBefore (Some next) c = c < next
