-- How many numbers pass a test.
use Rattle.std.specs.Prelude.{◌≡◌, ℕ, Bool, List, length}
use Rattle.std.specs.List.Sorted.{IsStrictlySortedBy}
use Rattle.std.specs.Ordering.{nat_cmp}
use Rattle.amqp_session.specs.Ranges.{has}

-- how many numbers pass: those of a rising list
pub record IsCount (passes : ℕ → Bool) (count : ℕ) : Type 0 where
  pub numbers : List ℕ
  pub rise : IsStrictlySortedBy nat_cmp numbers
  pub pass : (n : ℕ) → has n numbers ≡ passes n
  pub are : length numbers ≡ count
