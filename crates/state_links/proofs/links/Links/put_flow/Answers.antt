use Rattle.amqp_model.specs.declared.perf.Perf.TheVariants as perf
use Rattle.state_links.proofs.Beside.{handles_stay}
use Rattle.state_links.proofs.links.Links.put_flow.Goals as goal

pub returns-clause-fits : goal.returns-clause-fits
returns-clause-fits c = λ t sasl payload fit. record {
  handles = handles_stay c.args.self.now.handles c.args.conn c.args.own sasl (perf.Flow c.args.flow.now) payload t tt fit.handles;
  table = c.in_ok-put_flow.ensures.fits t sasl payload fit.table;
}
