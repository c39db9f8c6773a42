use Rattle.state_pools.specs.Fits.{is_due, is_touched, place_of, pool_at, table_of}
use Rattle.state_pools.proofs.Fitting.{widened}
use Rattle.state_pools.proofs.laws.touched_say_nothing.Goals as goal

pub returns : goal.returns
returns c pools share known other actual last fits same = widened (is_touched pools) (table_of pools) share (pool_at pools) (place_of pools) (is_due pools) known actual last fits (is_touched pools) (is_due pools) other (λ n is. (is, same n is)) (λ a is. is)
