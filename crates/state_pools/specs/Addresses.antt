-- What is at an address, in maps by the bytes of addresses.
use Rattle.std.specs.Prelude.{ℕ, Bool, List, Option, None, Some, if◌then◌else◌}
use Rattle.std.specs.List.{list_any}
use Rattle.std.specs.Map.{lookup}
use Rattle.std.specs.Str.{bytes_eq}
use Rattle.route_credit.specs.Pool.{has_no_links, no_links, Sharing, without_consumer, without_producer}
use Rattle.route_table.specs.declared.sections.Distribution.{Distribution}

abbrev pub at_address : {K V : Type 0} → List (K × V) → (K → List ℕ) → List ℕ → Option V
at_address entries read address = lookup (λ k. bytes_eq address (read k)) entries

-- whether an address is among keys
abbrev pub among : {K : Type 0} → List K → (K → List ℕ) → List ℕ → Bool
among keys read address = list_any (λ k. bytes_eq address (read k)) keys

-- the pool of an address with this distribution; one without links if there is none
abbrev pub pool_or : Distribution → Option Sharing → Sharing
pool_or distribution None = no_links distribution
pool_or distribution (Some pool) = pool

-- the pools after that of one address has changed
abbrev pub with_pool : (List ℕ → Sharing) → List ℕ → (Sharing → Sharing) → List ℕ → Sharing
with_pool pools address change other = if bytes_eq address other then change (pools other) else pools other

-- a pool without a link
abbrev pub without : Sharing → ℕ → Sharing
without pool id = without_producer (without_consumer pool id) id

-- a pool that is a new one if it has no links
abbrev pub rested : Sharing → Sharing
rested pool = record pool { last = if has_no_links pool then 0 else pool.last }
