use Rattle.std.proofs.Common.{refl, rules}
use Rattle.route_table.specs.Places.{routing_of}
use Rattle.journal_store.specs.Store.{count_of}
use Rattle.journal_store.proofs.Sound.{opened_sound}
use Rattle.router_core.proofs.router.Core.open.Goals as goal

pub returns-clause-fits : goal.returns-clause-fits
returns-clause-fits g c below = record {
  tables = c.new-3.ensures (record { routing = routing_of c.args.config.now; book = c.in_ok-store.store.kept.book; batches = count_of c.in_ok-store.store }) below c.in-Ok.ensures (search rules);
  started = refl;
  journal = record { book = refl; batches = refl; suits = c.in_ok-store.ensures.suits };
}

pub returns-clause-opened : goal.returns-clause-opened
returns-clause-opened g c = record {
  fits = returns-clause-fits g c;
  keeps = λ below. (c.in_ok-store.ensures.stands, refl);
  sound = opened_sound (g.T.Twin.seen c.args.twin) c.in_ok-store.store.kept.book c.in_ok-store.ensures.book;
  works = refl;
  counts = c.none.ensures;
}
