-- The longest prefix that matches an address.
use Rattle.std.specs.Prelude.{◌≡◌, ℕ, Bool, true, ◌==◌, ◌||◌, ◌&&◌, List, [], ◌∷◌, length, take, drop, Option, None, Some, nat_lt, if◌then◌else◌}
use Rattle.std.specs.Str.{bytes_eq}
use Rattle.std.specs.Map.{lookup}

-- how an address may go on after a prefix: not at all, or with `.` or `/`
abbrev pub goes_on : List ℕ → Bool
goes_on [] = true
goes_on (byte ∷ rest) = (byte == 46) || (byte == 47)

-- the address equals the prefix, or goes on after it with `.` or `/`
abbrev pub matches : List ℕ → List ℕ → Bool
matches prefix address = bytes_eq (take (length prefix) address) prefix && goes_on (drop (length prefix) address)

module _ {V : Type 0} where
  -- of two entries the one with the longer prefix, the first where both are as long
  abbrev pub longer : Option (List ℕ × V) → Option (List ℕ × V) → Option (List ℕ × V)
  longer None second = second
  longer (Some x) None = Some x
  longer (Some x) (Some y) = if nat_lt (length x.0) (length y.0) then Some y else Some x

  -- the entry, where its prefix matches
  abbrev pub candidate : List ℕ × V → List ℕ → Option (List ℕ × V)
  candidate entry address = if matches entry.0 address then Some entry else None

  -- of the entries whose prefix matches the address, the one with the longest prefix
  abbrev pub best : List (List ℕ × V) → List ℕ → Option (List ℕ × V)
  best [] address = None
  best (entry ∷ entries) address = longer (candidate entry address) (best entries address)

  -- the value of the prefix that is the first `end` bytes of the address, where the address may go on after it
  abbrev pub value_at : List (List ℕ × V) → List ℕ → ℕ → Option V
  value_at entries address end = if goes_on (drop end address) then lookup (bytes_eq (take end address)) entries else None

  -- each prefix has the same value in both, or is in neither
  abbrev pub FindSame : List (List ℕ × V) → List (List ℕ × V) → Type 0
  FindSame xs ys = (prefix : List ℕ) → lookup (bytes_eq prefix) xs ≡ lookup (bytes_eq prefix) ys
