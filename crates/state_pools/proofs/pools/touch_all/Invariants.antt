use Rattle.std.proofs.Common.{◌≡◌, ◌||◌, ℕ, is_some, drop}
use Rattle.state_collections.specs.NumberSet.{has}
use Rattle.route_credit.specs.Links.{link_at}
use Rattle.route_credit.specs.Pool.{by_id}
use Rattle.state_pools.proofs.pools.touch_all.Given as goal

-- the links that are touched, or among those left
abbrev pub invariant-loop-sum : goal.invariant-loop-sum
invariant-loop-sum l = (n : ℕ) → (has l.touched n || is_some (link_at (by_id (drop l.sum-index l.sums)) n)) ≡ (has l.fn.touched n || is_some (link_at (by_id l.fn.sums) n))
