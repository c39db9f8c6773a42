use Rattle.std.proofs.Common.{◌∙◌}
use Rattle.state_links.proofs.links.Links.put_perf.Goals as goal

pub returns-clause-fits : goal.returns-clause-fits
returns-clause-fits c = λ t sasl key fit. record {
  handles = c.in_ok-put-2.ensures t sasl c.args.payload.now fit.handles;
  table = c.in_ok-put.ensures.fits t sasl key (c.asked_by-last.ensures t fit.handles) fit.table;
}
