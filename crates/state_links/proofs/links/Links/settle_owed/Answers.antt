use Rattle.state_links.proofs.Owing.{settled_fits}
use Rattle.state_links.proofs.links.Links.settle_owed.Goals as goal

pub returns-clause-fits : goal.returns-clause-fits
returns-clause-fits c = λ t fit. record {
  handles = fit.handles;
  table = settled_fits c.args.self.now.table _ t c.settle_owed.ensures.rest c.settle_owed.ensures.marks fit.table;
}
