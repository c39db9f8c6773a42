-- Deliveries of links in the order of binding, as an index has them.
use Rattle.std.specs.Prelude.{◌≡◌, ◌≤◌, ◌==◌, ℕ, Bool, true, false, ◌&&◌, ◌||◌, if◌then◌else◌, Option, Some, None}
use Rattle.std.specs.Ordering.{is_gt}
use Rattle.std.specs.declared.ops.Bound.{Bound}
use Rattle.std.specs.declared.ops.Bound.TheVariants.{Excluded, Unbounded}
use Rattle.std.specs.BTreeMap.{is_at}
use Rattle.std.specs.BTreeMap.Range.{IsFromStart}
use Rattle.std.specs.BTreeSet.{contains}
use Rattle.router_trace.specs.declared.binding.Rank.{Rank}
use Rattle.router_trace.specs.Deliveries.{Delivery, ranked}
use Rattle.state_deliveries.specs.declared.by_rank.ByRank.{ByRank}
use Rattle.state_deliveries.specs.declared.by_rank.Turn.{Turn}
use Rattle.state_deliveries.specs.Finding.{is_above, is_behind}
use Rattle.state_deliveries.specs.Placing.{Key, key_cmp}

-- An entry: a link, a rank and a number; ordered by link, then by rank, then by number.
abbrev pub entry : ℕ → Rank → ℕ → Key
entry k r n = (k, r.row, r.counter, n)

-- an entry is this one
abbrev pub is_entry : Option Key → Key → Bool
is_entry None q = false
is_entry (Some p) q = is_at (key_cmp p) q

-- an entry is the one in place, or among the others
abbrev pub has_entry : ByRank → Key → Bool
has_entry g q = is_entry g.place q || contains key_cmp g.others q

-- a number belongs to a link, with this rank
abbrev pub in_group : ByRank → ℕ → Rank → ℕ → Bool
in_group g k r n = has_entry g (entry k r n)

-- a number's place is this one
abbrev pub is_turn : Option Turn → ℕ → Rank → Bool
is_turn None k r = false
is_turn (Some x) k r = (x.link == k) && ((x.rank.row == r.row) && (x.rank.counter == r.counter))

-- the first entry from a bound on that passes, if any does
abbrev pub IsFirstEntry : (Key → Bool) → Bound Key → Option Key → Type 0
IsFirstEntry passes low None = (q : Key) → IsFromStart key_cmp low q → passes q ≡ false
IsFirstEntry passes low (Some p) = IsFromStart key_cmp low p × (passes p ≡ true)
    × ((q : Key) → IsFromStart key_cmp low q → passes q ≡ true → is_gt (key_cmp p q) ≡ false)

-- the number of an entry of this link
abbrev pub number_on : ℕ → Option Key → Option ℕ
number_on k None = None
number_on k (Some p) = if p.0 == k then Some p.3 else None

-- where the entries of the links above this one begin, or those of all
abbrev pub after_link : Option ℕ → Bound Key
after_link None = Unbounded
after_link (Some k) = Excluded (k, 18446744073709551615, 18446744073709551615, 18446744073709551615)

-- a number of a rank stands behind the delivery with another number, or there is no other
abbrev pub is_past : (ℕ → Option Delivery) → Option ℕ → Rank → ℕ → Bool
is_past known None r n = true
is_past known (Some m) r n = is_behind (ranked (known m)) m r n

-- the first number that passes with a rank, if any does
abbrev pub IsFirstIn : (Rank → ℕ → Bool) → Option ℕ → Type 0
IsFirstIn passes None = (r : Rank) (n : ℕ) → passes r n ≡ false
IsFirstIn passes (Some n) = (r : Rank) × (passes r n ≡ true) × ((q : Rank) (m : ℕ) → passes q m ≡ true → is_behind q m r n ≡ false)

-- the lowest link, above this one or of all, that has numbers which pass
abbrev pub IsFirstGroup : (ℕ → Rank → ℕ → Bool) → Option ℕ → Option ℕ → Type 0
IsFirstGroup passes above None = (k : ℕ) (r : Rank) (n : ℕ) → is_above above k ≡ true → passes k r n ≡ false
IsFirstGroup passes above (Some k) =
    (is_above above k ≡ true) × ((r : Rank) × (n : ℕ) × (passes k r n ≡ true))
    × ((j : ℕ) (r : Rank) (n : ℕ) → is_above above j ≡ true → passes j r n ≡ true → k ≤ j)
