-- When the pools agree with what each link has.
use Rattle.std.specs.Prelude.{◌≡◌, ◌==◌, ◌||◌, ◌<◌, ◌⊎◌, ℕ, Bool, true, false, List, [], Option, None, Some, option_map, is_some, if◌then◌else◌}
use Rattle.std.specs.List.Sorted.{IsStrictlySortedBy}
use Rattle.std.specs.Map.{keys_of}
use Rattle.std.specs.Cmp.Lexicographic.{slice_cmp}
use Rattle.std.specs.Ordering.{nat_cmp}
use Rattle.std.specs.declared.cmp.Ordering.TheVariants.{Less}
use Rattle.std.specs.Str.{bytes_eq}
use Rattle.route_credit.specs.Granting.{grants_of}
use Rattle.route_credit.specs.Links.{link_at}
use Rattle.route_credit.specs.Pool.{Sharing}
use Rattle.route_credit.specs.declared.offer.Offer.{Offer}
use Rattle.state_collections.specs.NumberMap.{at_number}
use Rattle.state_collections.specs.declared.number_map.NumberMap.{NumberMap}
use Rattle.state_collections.specs.NumberSet.{has as has_mark, size}
use Rattle.state_pools.specs.Addresses.{pool_or}
use Rattle.state_pools.specs.ByBytes.{at, has_none}
use Rattle.route_table.specs.declared.sections.Distribution.{Distribution}
use Rattle.route_table.specs.Places.{distribution_of}
use Rattle.state_pools.specs.Due.{is_in, is_place}
use Rattle.state_pools.specs.Sharing.{AreNumbered, demand_at, Figure, offer_at, sharing}
use Rattle.state_pools.specs.Digest.{digest_of}
use Rattle.state_pools.specs.declared.by_address.ByAddress.{ByAddress}
use Rattle.state_pools.specs.declared.row.Row.{Row}
use Rattle.state_pools.specs.declared.seat.Seat.{Seat}
use Rattle.state_pools.specs.declared.pools.Pools.{Pools}

-- the pool of an address in a row, with this distribution of addresses
abbrev pub pool_in_row : (List ℕ → Distribution) → Row → List ℕ → Sharing
pool_in_row share row address = pool_or (share address) (at row.pools address)

abbrev pub has_no_pools : Row → Bool
has_no_pools row = has_none row.pools

-- what is at an address in a row, if there is one
abbrev pub in_row : Option Row → List ℕ → Option Sharing
in_row None address = None
in_row (Some row) address = at row.pools address

-- the row of the digest of an address
abbrev pub row_of : ByAddress → List ℕ → Option Row
row_of pools address = at_number pools.rows (digest_of address)

-- the pool of an address, with this distribution of addresses
abbrev pub pool_in : (List ℕ → Distribution) → ByAddress → List ℕ → Sharing
pool_in share pools address = pool_or (share address) (in_row (row_of pools address) address)

-- the distribution that the table of prefixes gives each address
abbrev pub table_of : Pools → List ℕ → Distribution
table_of pools address = distribution_of pools.table address

abbrev pub pool_at : Pools → List ℕ → Sharing
pool_at pools address = pool_in (table_of pools) pools.pools address

-- whether the figures of a link may have changed
abbrev pub is_touched : Pools → ℕ → Bool
is_touched pools number = has_mark pools.touched number

-- a measure of how many may have changed
abbrev pub touched_count : Pools → ℕ
touched_count pools = size pools.touched

-- the address that a link is at
abbrev pub places_of : NumberMap Seat → ℕ → Option (List ℕ)
places_of seats number = option_map (λ seat. seat.address.items) (at_number seats number)

abbrev pub place_of : Pools → ℕ → Option (List ℕ)
place_of pools = places_of pools.seats

-- whether an address may have grants
abbrev pub is_due : Pools → List ℕ → Bool
is_due pools address = is_in pools.due (place_of pools) address

-- each of these consumers has a number above this one
abbrev pub AllAbove : ℕ → List (ℕ × Offer) → Type 0
AllAbove last consumers = (n : ℕ) → is_some (link_at consumers n) ≡ true → last < n

-- A pool has noted the consumer chosen last. Or it notes none, since it was removed with its last link; then each consumer that it has
-- attached after that one, so that the choice is the same.
abbrev pub HasNoted : Sharing → ℕ → Type 0
HasNoted pool last = (pool.last ≡ last) ⊎ ((pool.last ≡ 0) × AllAbove last pool.consumers)

-- a link offers something to an address
abbrev pub offers : Option Figure → List ℕ → Bool
offers figure address = is_some (offer_at address figure)

-- whether a link is in a pool
abbrev pub has_link : Sharing → ℕ → Bool
has_link pool n = is_some (link_at pool.consumers n) || is_some (link_at pool.producers n)

-- The pools agree with what is known of each link that isn't apart, and with each address's distribution and the
-- consumer chosen last. A consumer that isn't in its address's pool yet has a number above the one chosen last there:
-- what each link has now says whether it is a consumer there. A link is at its place and nowhere else, and an address
-- that isn't due has no grants. The table gives the distributions.
pub record Fits (apart : ℕ → Bool) (table share : List ℕ → Distribution) (pools : List ℕ → Sharing) (place : ℕ → Option (List ℕ)) (due : List ℕ → Bool) (known actual : ℕ → Option Figure) (last : List ℕ → ℕ) : Type 0 where
  pub consumers : (n : ℕ) (address : List ℕ) → apart n ≡ false → link_at (pools address).consumers n ≡ offer_at address (known n)
  pub producers : (n : ℕ) (address : List ℕ) → apart n ≡ false → link_at (pools address).producers n ≡ demand_at address (known n)
  pub no_consumer : (n : ℕ) (address : List ℕ) → is_place (place n) address ≡ false → link_at (pools address).consumers n ≡ None
  pub no_producer : (n : ℕ) (address : List ℕ) → is_place (place n) address ≡ false → link_at (pools address).producers n ≡ None
  pub seated : (n : ℕ) (address : List ℕ) → is_place (place n) address ≡ true → has_link (pools address) n ≡ true
  pub same : (address : List ℕ) → table address ≡ share address
  pub distribution : (address : List ℕ) → (pools address).distribution ≡ share address
  pub chosen : (address : List ℕ) → HasNoted (pools address) (last address)
  pub later : (n : ℕ) (address : List ℕ) → link_at (pools address).consumers n ≡ None → offers (actual n) address ≡ true → last address < n
  pub consumers_rise : (address : List ℕ) → IsStrictlySortedBy nat_cmp (keys_of (pools address).consumers)
  pub producers_rise : (address : List ℕ) → IsStrictlySortedBy nat_cmp (keys_of (pools address).producers)
  pub quiet : (address : List ℕ) → due address ≡ false → grants_of (pools address) ≡ []

-- the pools agree with what is known of each link, except the touched links, and with what each link has now
abbrev pub PoolsFit : Pools → (List ℕ → Distribution) → (ℕ → Option Figure) → (ℕ → Option Figure) → (List ℕ → ℕ) → Type 0
PoolsFit pools share known actual last = Fits (is_touched pools) (table_of pools) share (pool_at pools) (place_of pools) (is_due pools) known actual last

-- the same, except one more link
abbrev pub PoolsFitBut : ℕ → Pools → (List ℕ → Distribution) → (ℕ → Option Figure) → (ℕ → Option Figure) → (List ℕ → ℕ) → Type 0
PoolsFitBut number pools share known actual last = Fits (λ n. number == n || is_touched pools n) (table_of pools) share (pool_at pools) (place_of pools) (is_due pools) known actual last

-- the same, if that link has no place
abbrev pub PoolsFitWithout : ℕ → Pools → (List ℕ → Distribution) → (ℕ → Option Figure) → (ℕ → Option Figure) → (List ℕ → ℕ) → Type 0
PoolsFitWithout number pools share known actual last =
    Fits (λ n. number == n || is_touched pools n) (table_of pools) share (pool_at pools) (λ n. if number == n then None else place_of pools n) (is_due pools) known actual last

-- both agree on each link but one
abbrev pub AgreeBut : ℕ → (ℕ → Option Figure) → (ℕ → Option Figure) → Type 0
AgreeBut number one other = (n : ℕ) → (number == n) ≡ false → one n ≡ other n

-- no link is touched
abbrev pub NoneTouched : Pools → Type 0
NoneTouched pools = (n : ℕ) → is_touched pools n ≡ false

-- the consumer chosen last, after a choice at an address
abbrev pub or_last : Option ℕ → ℕ → ℕ
or_last None last = last
or_last (Some id) last = id

abbrev pub chosen_at : List ℕ → Option ℕ → (List ℕ → ℕ) → List ℕ → ℕ
chosen_at address chosen last other = if bytes_eq address other then or_last chosen (last other) else last other

-- whether a link is among those that were granted credit
abbrev pub is_granted : Option (List (ℕ × ℕ)) → ℕ → Bool
is_granted None number = false
is_granted (Some sums) number = is_some (link_at sums number)

-- these sums are the grants of an address, and no address before it, in the order of bytes, has any
pub record AreFirst (pools : Pools) (sums : List (ℕ × ℕ)) : Type 0 where
  pub address : List ℕ
  pub granted : (share : List ℕ → Distribution) (known actual : ℕ → Option Figure) (last : List ℕ → ℕ) (count : ℕ) → PoolsFit pools share known actual last → NoneTouched pools → AreNumbered known count
      → sums ≡ grants_of (sharing (share address) known count (last address) address)
  pub below : (share : List ℕ → Distribution) (known actual : ℕ → Option Figure) (last : List ℕ → ℕ) (count : ℕ) → PoolsFit pools share known actual last → NoneTouched pools → AreNumbered known count
      → (a : List ℕ) → slice_cmp nat_cmp a address ≡ Less → grants_of (sharing (share a) known count (last a) a) ≡ []
