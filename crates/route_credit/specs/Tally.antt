-- The sums that producers were given.
use Rattle.std.specs.Prelude.{ℕ, Option, None, Some, List, ◌∷◌}
use Rattle.route_credit.specs.declared.tally.Sum.{Sum}
use Rattle.route_credit.specs.declared.tally.Tally.{Tally}

-- the sum that stands in place before the others
abbrev pub before_others : Option Sum → List (ℕ × ℕ) → List (ℕ × ℕ)
before_others None others = others
before_others (Some last) others = (last.id, last.amount) ∷ others

-- all sums by number: what stands in place counts, and not what the others have of the same number
abbrev pub tallied : Tally → List (ℕ × ℕ)
tallied tally = before_others tally.last tally.others.entries
