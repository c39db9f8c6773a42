use Rattle.std.proofs.Common.{◌∙◌, ◌∷◌, subst, sym, ap}
use Rattle.amqp_model.specs.declared.item.Item.{Item}
use Rattle.router_trace.specs.Trace.{Out}
use Rattle.state_links.specs.Fits.{LinksFit, key_by}
use Rattle.state_links.proofs.links.Links.put.Goals as goal

pub returns-in_ok-put_perf-in-Frame-clause-fits : goal.returns-in_ok-put_perf-in-Frame-clause-fits
returns-in_ok-put_perf-in-Frame-clause-fits c = λ t key fit.
    subst (λ (i : Item). LinksFit c.put_perf.new.self (Out c.args.conn i ∷ t)) (sym c.in-Frame.is)
    (c.in_ok-put_perf-in-Frame.ensures.fits t _ (key ∙ ap (λ (i : Item). key_by t c.args.conn i) c.in-Frame.is) fit)
