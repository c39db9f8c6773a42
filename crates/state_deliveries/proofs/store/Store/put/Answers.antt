use Rattle.std.proofs.Common.{◌∷◌, subst, sym}
use Rattle.amqp_model.specs.declared.item.Item.{Item}
use Rattle.router_trace.specs.Trace.{Out}
use Rattle.router_trace.specs.Deliveries.{delivery, number_named, sending}
use Rattle.state_deliveries.specs.Calling.{Knows}
use Rattle.state_deliveries.specs.Fits.{StoreFit, carried_by}
use Rattle.state_deliveries.proofs.Puts.{unframed}
use Rattle.state_deliveries.proofs.store.Store.put.Goals as goal

pub returns-in_ok-put_perf-in-Frame-clause-fits : goal.returns-in_ok-put_perf-in-Frame-clause-fits
returns-in_ok-put_perf-in-Frame-clause-fits c = λ t number fit.
    subst (λ (i : Item). Knows (delivery t) c.args.number (carried_by (number_named t) i (sending t c.args.conn)) → StoreFit c.put_perf.new.self (Out c.args.conn i ∷ t)) (sym c.in-Frame.is)
    (λ same. c.in_ok-put_perf-in-Frame.ensures.fits t _ same fit) number

pub returns-in_default-clause-fits : goal.returns-in_default-clause-fits
returns-in_default-clause-fits c = λ t number fit. unframed c.args.self.now c.args.conn c.args.item.now t c.in_default.not-Frame fit
