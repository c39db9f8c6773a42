-- Pools that were told what a link has, before its address is noted as due.
use Rattle.std.proofs.Common.{◌≡◌, ℕ, Bool, false, ◌||◌, Option, Some, List}
use Rattle.std.specs.Prelude.{◌==◌}
use Rattle.route_table.specs.declared.sections.Distribution.{Distribution}
use Rattle.state_pools.specs.Fits.{Fits, is_due, is_touched, place_of, pool_at, table_of}
use Rattle.state_pools.specs.Sharing.{Figure}
use Rattle.state_pools.specs.declared.pools.Pools.{Pools}

-- The link is at the address, and the pools agree with what it has once each address is due that was, and this one too
-- if it may have grants.
pub record Told (pools : Pools) (n : ℕ) (q : List ℕ) (may : Bool) (share : List ℕ → Distribution) (known actual : ℕ → Option Figure) (last : List ℕ → ℕ) : Type 0 where
  pub there : place_of pools n ≡ Some q
  pub fits : (due : List ℕ → Bool) → ((a : List ℕ) → due a ≡ false → is_due pools a ≡ false) → (due q ≡ false → may ≡ false)
      → (apart : ℕ → Bool) → ((m : ℕ) → apart m ≡ false → (n == m) ≡ false → (n == m || is_touched pools m) ≡ false)
      → Fits apart (table_of pools) share (pool_at pools) (place_of pools) due known actual last
