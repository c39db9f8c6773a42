-- How many deliveries a link has.
use Rattle.std.specs.Prelude.{◌≡◌, ◌==◌, ◌+◌, ◌-◌, ◌&&◌, ℕ, Bool, false, if◌then◌else◌, Option, Some, None, unwrap_or}
use Rattle.state_collections.specs.NumberMap.{at_number}
use Rattle.router_trace.specs.Deliveries.{is_number}
use Rattle.state_deliveries.specs.declared.consumers.Consumers.{Consumers}
use Rattle.state_deliveries.specs.declared.consumers.OfLink.{OfLink}
use Rattle.state_deliveries.specs.declared.tallies.Tallies.{Tallies}
use Rattle.router_trace.specs.Counting.{IsCount}

abbrev pub tally : Tallies → ℕ → ℕ
tally s k = unwrap_or (at_number s.counts k) 0

abbrev pub is_zero : Option ℕ → Bool
is_zero None = false
is_zero (Some n) = n == 0

-- of each link it is the number of those known to be on it, and no link without any has an entry
pub record IsTallied (s : Tallies) (known : ℕ → Option ℕ) : Type 0 where
  pub counts : (k : ℕ) → IsCount (λ n. is_number (known n) k) (tally s k)
  pub needed : (k : ℕ) → is_zero (at_number s.counts k) ≡ false

-- how many of a consumer's link wait to start, and how many are undecided
abbrev pub waiting_of : Option OfLink → ℕ
waiting_of None = 0
waiting_of (Some r) = r.waiting

abbrev pub undecided_of : Option OfLink → ℕ
undecided_of None = 0
undecided_of (Some r) = r.undecided

abbrev pub waiting_at : Consumers → ℕ → ℕ
waiting_at s k = waiting_of (at_number s.rows k)

abbrev pub undecided_at : Consumers → ℕ → ℕ
undecided_at s k = undecided_of (at_number s.rows k)

-- a row that counts none
abbrev pub has_none : Option OfLink → Bool
has_none None = false
has_none (Some r) = (r.waiting == 0) && (r.undecided == 0)

-- they are the numbers of those known to wait on it and to be undecided on it, and no link without any has a row
pub record AreTallied (s : Consumers) (waits lasts : ℕ → Option ℕ) : Type 0 where
  pub waiting : (k : ℕ) → IsCount (λ n. is_number (waits n) k) (waiting_at s k)
  pub undecided : (k : ℕ) → IsCount (λ n. is_number (lasts n) k) (undecided_at s k)
  pub needed : (k : ℕ) → has_none (at_number s.rows k) ≡ false

-- a link, unless the other one is the same
abbrev pub unless_at : Option ℕ → Option ℕ → Option ℕ
unless_at None other = None
unless_at (Some k) other = if is_number other k then None else Some k

-- one more, and one less, if it counts
abbrev pub more : Bool → ℕ → ℕ
more counts n = if counts then n + 1 else n

abbrev pub less : Bool → ℕ → ℕ
less counts n = if counts then n - 1 else n
