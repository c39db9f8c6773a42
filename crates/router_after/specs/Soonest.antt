-- Of several numbers with places and ranks, the one that goes first: by connection, by the router's channel, by rank, then by number.
use Rattle.std.specs.Prelude.{◌≡◌, ℕ, Bool, true, false, not, ◌&&◌, ◌||◌, if◌then◌else◌, Option, Some, None}
use Rattle.router_trace.specs.declared.binding.Rank.{Rank}
use Rattle.router_trace.specs.declared.handle.Attachment.{Attachment}
use Rattle.router_trace.specs.Numbers.{is_before}
use Rattle.state_deliveries.specs.Finding.{is_above, is_behind}
use Rattle.router_after.specs.declared.candidate.Candidate.{Candidate}

abbrev pub is_sooner : Candidate → Candidate → Bool
is_sooner b c = is_before b.place c.place || (not (is_before c.place b.place) && is_behind b.rank b.number c.rank c.number)

abbrev pub candidate : (ℕ → Rank) → ℕ → Attachment → Candidate
candidate rank n a = record { number = n; place = a; rank = rank n }

-- a number at a place goes before the best found so far, if there is one
abbrev pub beats : (ℕ → Rank) → ℕ → Attachment → Option Candidate → Bool
beats rank n a None = true
beats rank n a (Some c) = is_sooner (candidate rank n a) c

abbrev pub unless_sooner : Candidate → Option Candidate → Option Candidate
unless_sooner b None = Some b
unless_sooner b (Some c) = if is_sooner c b then Some c else Some b

abbrev pub sooner : Option Candidate → Option Candidate → Option Candidate
sooner None c = c
sooner (Some b) c = unless_sooner b c

-- the best found so far has its place and its rank
abbrev pub Stands : (ℕ → Rank) → (ℕ → Option Attachment) → Option Candidate → Type 0
Stands rank place None = Unit {0}
Stands rank place (Some c) = (place c.number ≡ Some c.place) × (rank c.number ≡ c.rank)

-- no number with a place goes before the best found so far
pub record IsSoonest (rank : ℕ → Rank) (place : ℕ → Option Attachment) (best : Option Candidate) : Type 0 where
  pub stands : Stands rank place best
  pub first : (n : ℕ) (a : Attachment) → place n ≡ Some a → beats rank n a best ≡ false

-- the same for the numbers on one link
pub record IsSoonestOn (rank : ℕ → Rank) (place : ℕ → Option Attachment) (link : ℕ) (best : Option Candidate) : Type 0 where
  pub stands : Stands rank place best
  pub first : (n : ℕ) (a : Attachment) → place n ≡ Some a → a.number ≡ link → beats rank n a best ≡ false

-- the same for the numbers on the links up to one
pub record IsSoonestUpTo (rank : ℕ → Rank) (place : ℕ → Option Attachment) (last : Option ℕ) (best : Option Candidate) : Type 0 where
  pub stands : Stands rank place best
  pub first : (n : ℕ) (a : Attachment) → place n ≡ Some a → beats rank n a best ≡ true → is_above last a.number ≡ true
