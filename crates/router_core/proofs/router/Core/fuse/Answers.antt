use Rattle.std.proofs.Common.{◌∙◌}
use Rattle.router_core.proofs.router.Core.fuse.Goals as goal

pub returns-clause-fits : goal.returns-clause-fits
returns-clause-fits g c = λ t f. record {
  tables = f.tables;
  started = f.started;
  journal = record {
    book = c.fuse.ensures.book ∙ f.journal.book;
    batches = c.fuse.ensures.same.0 ∙ f.journal.batches;
    suits = c.fuse.ensures.same.2 f.journal.suits;
  };
}
