use Rattle.std.proofs.Common.{◌≡◌, ℕ, List, Option}
use Rattle.route_table.specs.declared.sections.Distribution.{Distribution}
use Rattle.state_pools.specs.Fits.{is_touched, PoolsFit}
use Rattle.state_pools.specs.Due.{count}
use Rattle.state_pools.specs.Sharing.{Figure}
use Rattle.state_pools.proofs.pools.Pools.grants.Given as goal

-- what agreed at the start still agrees, and no link was touched
abbrev pub invariant-loop-sums : goal.invariant-loop-sums
invariant-loop-sums l = ((share : List ℕ → Distribution) (known actual : ℕ → Option Figure) (last : List ℕ → ℕ) → PoolsFit l.fn.self share known actual last → PoolsFit l.self share known actual last) × ((n : ℕ) → is_touched l.self n ≡ is_touched l.fn.self n)

abbrev pub decreases-loop-sums : goal.decreases-loop-sums
decreases-loop-sums l = count l.self.due
