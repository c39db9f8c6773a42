-- Whose turn it is: the grants of an address, or what the newest link is owed.
use Rattle.std.specs.Prelude.{ℕ, List, [], ◌∷◌, Option, Some, None}
use Rattle.std.specs.Cmp.Lexicographic.{slice_cmp}
use Rattle.std.specs.Ordering.{nat_cmp}
use Rattle.std.specs.declared.cmp.Ordering.{Ordering}
use Rattle.std.specs.declared.cmp.Ordering.TheVariants.{Less, Equal, Greater}
use Rattle.router_trace.specs.Trace.{Trace}
use Rattle.router_trace.specs.Links.{Link}
use Rattle.state_links.specs.Looking.{numbered_link}
use Rattle.state_messages.specs.Messages.{owed_at, with_newest}

-- the link of the first of these sums, and its address
abbrev pub first_link : Trace → List (ℕ × ℕ) → Option Link
first_link t [] = None
first_link t (sum ∷ sums) = numbered_link t sum.0

abbrev pub place_in : Option Link → Option (List ℕ)
place_in None = None
place_in (Some l) = Some l.address

-- The order of two addresses: that of the sums, and that where the newest link is owed credit. The sums come first if
-- it is owed none, and it comes first if there are no sums.
abbrev pub order_of : Option (List ℕ) → Option (List ℕ) → Ordering
order_of None place = Less
order_of (Some owed) None = Greater
order_of (Some owed) (Some place) = slice_cmp nat_cmp place owed

abbrev pub whose_turn : Trace → ℕ → List (ℕ × ℕ) → Ordering
whose_turn t newest sums = order_of (owed_at (numbered_link t newest)) (place_in (first_link t sums))

-- what is granted then, if the newest link has this number
abbrev pub in_turn : Ordering → ℕ → List (ℕ × ℕ) → List (ℕ × ℕ)
in_turn Less newest sums = sums
in_turn Equal newest sums = with_newest newest sums
in_turn Greater newest sums = (newest, 0) ∷ []
