use Rattle.std.proofs.Common.{refl, sym, subst}
use Rattle.disk_core.specs.Twin.{Contents}
use Rattle.twin_journal.specs.Figures.{Fits}
use Rattle.twin_journal.specs.Room.{Suits}
use Rattle.twin_journal.proofs.journal.Journal.open.Goals as goal

pub returns-clause-opened : goal.returns-clause-opened
returns-clause-opened g c =
    let T = g.T.Twin in
    let found = c.in_ok-figures.ensures.found (T.seen c.args.twin) c.in_ok-active.ensures.read in
    record {
      base = c.in_ok-figures.figures.base;
      start = found.start;
      batches = found.batches;
      keeps = record {
        stamp = found.stamp;
        at = record {
          fits = subst (λ (d : Contents). Fits c.in_ok-figures.figures d found.stamp found.start found.batches) (sym c.in_ok-active.ensures.seen) found.fits;
          durable = c.in_ok-active.ensures.durable (λ is. absurd cc) (λ is. absurd cc);
        };
        none_held = c.in_ok-held.ensures.bytes;
        level = c.in_ok-held.ensures.ahead;
        base_is = refl;
        suits = subst (Suits c.in_ok-needs.needs) found.book_is c.in_ok-needs.ensures.suits;
      };
      leaves = found.book_is;
    }
