use Rattle.std.proofs.Common.{◌==◌, ◌||◌, ◌∙◌, ap}
use Rattle.state_pools.specs.Fits.{is_due, is_touched, offers, place_of, pool_at, table_of}
use Rattle.state_pools.proofs.Fitting.{but_one, gone, untouched, widened}
use Rattle.state_pools.proofs.pools.Pools.leave.Goals as goal

pub returns-clause-fits : goal.returns-clause-fits
returns-clause-fits c share known other actual last fits nothing really others =
    let old = c.args.self.now in
    let mid = c.take_out.new.self in
    gone (λ m. c.args.number == m || is_touched mid m) (table_of mid) share (pool_at mid) (place_of mid) (is_due mid) known actual last
    (c.in_ok-take_out.ensures.fits share known actual last (widened (is_touched old) (table_of old) share (pool_at old) (place_of old) (is_due old) known actual last fits (λ m. c.args.number == m || is_touched old m) (is_due old) known (but_one c.args.number (is_touched old) known) (λ a is. is))
    (λ a at. ap (λ figure. offers figure a) (really ∙ nothing)))
    c.args.number c.in_ok-take_out.ensures.nowhere _ (untouched (is_touched mid) _ c.args.number c.remove.ensures.gone) other nothing others
