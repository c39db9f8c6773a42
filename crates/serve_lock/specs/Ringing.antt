-- Which bells are among some.
use Rattle.std.specs.Prelude.{ℕ, Bool, List, ◌==◌, ◌/◌, ◌%◌, slice_index_or}
use Rattle.std.specs.Int.{bit_at}

-- a bit of these words, of which each has 64
unfoldable pub is_set : List ℕ → ℕ → Bool
is_set words place = bit_at (slice_index_or words (place / 64) 0) (place % 64) == 1
