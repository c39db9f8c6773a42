-- Serial numbers of 32 bits (RFC 1982).
use Rattle.std.specs.Prelude.{ℕ, ◌+◌, ◌-◌, ◌%◌, ◌^◌, ◌<◌, ◌⊎◌}

-- a comes before b (section 3.2)
abbrev pub IsBefore : ℕ → ℕ → Type 0
IsBefore a b = ((a < b) × (b - a < 2 ^ 31)) ⊎ ((b < a) × (2 ^ 31 < a - b))

-- how far it is from a forward to b
abbrev pub distance : ℕ → ℕ → ℕ
distance a b = (b + 2 ^ 32 - a) % 2 ^ 32
