-- Laws of the pools of all addresses.
use Rattle.std.specs.Prelude.{◌≡◌, ◌⊎◌, ℕ, false, List, Option}
use Rattle.route_credit.specs.Granting.{choice, grants_of}
use Rattle.route_credit.specs.Pool.{Sharing}
use Rattle.route_table.specs.declared.sections.Distribution.{Distribution}
use Rattle.state_pools.specs.Fits.{AllAbove, is_touched, NoneTouched, pool_at, PoolsFit}
use Rattle.state_pools.specs.Sharing.{AreNumbered, Figure, sharing}
use Rattle.state_pools.specs.declared.pools.Pools.{Pools}

-- pools that agree with the links don't depend on what touched links have
abbrev pub TouchedSayNothing : Type 0
TouchedSayNothing = (pools : Pools) (share : List ℕ → Distribution) (known other actual : ℕ → Option Figure) (last : List ℕ → ℕ) → PoolsFit pools share known actual last → ((n : ℕ) → is_touched pools n ≡ false → other n ≡ known n) → PoolsFit pools share other actual last

-- a pool, or the same as if no consumer had been chosen yet, where each consumer attached after the one chosen last
abbrev pub IsOrForgot : Sharing → Sharing → Type 0
IsOrForgot pool shared = (pool ≡ shared) ⊎ ((pool ≡ record shared { last = 0 }) × AllAbove shared.last shared.consumers)

-- if nothing is touched, the pool of an address is the one computed from what each link has, or that one with its last choice forgotten
abbrev pub PoolsAreSharing : Type 0
PoolsAreSharing = (pools : Pools) (share : List ℕ → Distribution) (known actual : ℕ → Option Figure) (last : List ℕ → ℕ) (count : ℕ) → PoolsFit pools share known actual last → NoneTouched pools → AreNumbered known count
    → (address : List ℕ) → IsOrForgot (pool_at pools address) (sharing (share address) known count (last address) address)

-- so its choice and its grants depend only on what each link has and on the consumer chosen last
abbrev pub PoolsAnswerAsSharing : Type 0
PoolsAnswerAsSharing = (pools : Pools) (share : List ℕ → Distribution) (known actual : ℕ → Option Figure) (last : List ℕ → ℕ) (count : ℕ) → PoolsFit pools share known actual last → NoneTouched pools → AreNumbered known count
    → (address : List ℕ) → (choice (pool_at pools address) ≡ choice (sharing (share address) known count (last address) address)) × (grants_of (pool_at pools address) ≡ grants_of (sharing (share address) known count (last address) address))
