-- How far the grants of a pool have come.
use Rattle.std.specs.Prelude.{◌≡◌, ◌+◌, ◌<◌, ◌⊎◌, ℕ, Some, List}
use Rattle.std.specs.Map.{keys_of}
use Rattle.route_credit.specs.Granting.{all_granted}
use Rattle.route_credit.specs.Links.{amount_at, link_at}
use Rattle.route_credit.specs.Pool.{free, Granted, lent, Sharing, unused_at, WithinFree}

-- these sums were granted between two pools
pub record IsGiving (old now : Sharing) (sums : List (ℕ × ℕ)) : Type 0 where
  pub granted : Granted old now
  pub within : (now ≡ old) ⊎ WithinFree now.distribution (lent now) (free now)
  pub some : (id n : ℕ) → link_at sums id ≡ Some n → 0 < n
  pub all : all_granted now ≡ all_granted old
  pub keys : keys_of now.producers ≡ keys_of old.producers
  pub raised : (id : ℕ) → unused_at now id ≡ unused_at old id + amount_at (λ n. n) (link_at sums id)
