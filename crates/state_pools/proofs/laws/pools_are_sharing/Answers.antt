use Rattle.state_pools.specs.Fits.{is_due, is_touched, place_of, pool_at, table_of}
use Rattle.state_pools.proofs.Listed.{pool_is}
use Rattle.state_pools.proofs.laws.pools_are_sharing.Goals as goal

pub returns : goal.returns
returns c pools share known actual last count fits none numbered address = pool_is (is_touched pools) (table_of pools) share (pool_at pools) (place_of pools) (is_due pools) known actual last count address fits none numbered
