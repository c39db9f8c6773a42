-- Numbers that pass a test.
use Rattle.std.specs.Prelude.{ℕ, zero, suc, ◌+◌, Bool, not, nat_lt, ◌==◌, ◌&&◌, ◌||◌, if◌then◌else◌, Option, Some, None}
use Rattle.router_trace.specs.declared.binding.Rank.{Rank}
use Rattle.router_trace.specs.declared.handle.Attachment.{Attachment}
use Rattle.router_trace.specs.Deliveries.{is_earlier}

-- the first number if there is one, else the second
abbrev pub or_other : Option ℕ → Option ℕ → Option ℕ
or_other None other = other
or_other (Some n) other = Some n

abbrev pub if_passes : Bool → ℕ → Option ℕ
if_passes passes n = if passes then Some n else None

-- the lowest number, below this one, that passes
unfoldable pub first_below : ℕ → (ℕ → Bool) → Option ℕ
first_below zero passes = None
first_below (suc n) passes = or_other (first_below n passes) (if_passes (passes n) n)

-- how many of them pass
unfoldable pub count_below : ℕ → (ℕ → Bool) → ℕ
count_below zero passes = 0
count_below (suc n) passes = count_below n passes + (if passes n then 1 else 0)

-- the greatest number up to this one that passes; 0 if none does
unfoldable pub most_of : ℕ → (ℕ → Bool) → ℕ
most_of zero passes = 0
most_of (suc n) passes = if passes (suc n) then suc n else most_of n passes

-- The order of places: by connection number, then by channel.
abbrev pub is_before : Attachment → Attachment → Bool
is_before a b = nat_lt a.conn.0 b.conn.0 || ((a.conn.0 == b.conn.0) && nat_lt a.channel b.channel)

-- Of the numbers below this one that have a place, the one with the first place, by connection and by the router's channel; among equal places
-- the one with the first rank, and among equal ranks the lowest.
pub record Placed : Type 0 where
  pub number : ℕ
  pub place : Attachment

abbrev pub is_ahead : (ℕ → Rank) → ℕ → Attachment → Placed → Bool
is_ahead rank n a b = is_before a b.place || (not (is_before b.place a) && is_earlier (rank n) (rank b.number))

abbrev pub better : (ℕ → Rank) → Option Placed → ℕ → Attachment → Option Placed
better rank None n a = Some (record { number = n; place = a })
better rank (Some b) n a = if is_ahead rank n a b then Some (record { number = n; place = a }) else Some b

abbrev pub or_better : (ℕ → Rank) → Option Placed → ℕ → Option Attachment → Option Placed
or_better rank best n None = best
or_better rank best n (Some a) = better rank best n a

unfoldable pub first_placed : (ℕ → Rank) → ℕ → (ℕ → Option Attachment) → Option Placed
first_placed rank zero place = None
first_placed rank (suc n) place = or_better rank (first_placed rank n place) n (place n)

-- Of the numbers below this one that pass, the one with the first rank, and among equal ranks the lowest.
abbrev pub or_earlier : (ℕ → Rank) → Option ℕ → ℕ → Option ℕ
or_earlier rank None n = Some n
or_earlier rank (Some m) n = if is_earlier (rank n) (rank m) then Some n else Some m

unfoldable pub first_ranked : (ℕ → Rank) → ℕ → (ℕ → Bool) → Option ℕ
first_ranked rank zero passes = None
first_ranked rank (suc n) passes = if passes n then or_earlier rank (first_ranked rank n passes) n else first_ranked rank n passes

-- all have one rank
abbrev pub no_rank : ℕ → Rank
no_rank n = record { row = 0; counter = 0 }
