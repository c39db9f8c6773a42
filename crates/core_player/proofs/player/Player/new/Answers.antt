use Rattle.std.proofs.Common.{refl, rules, []}
use Rattle.core_player.proofs.Recording.{opened_recorded}
use Rattle.core_player.proofs.player.Player.new.Goals as goal

pub returns-clause-begun : goal.returns-clause-begun
returns-clause-begun g c = λ named from opened. record {
  core = (opened.fits [], opened.keeps []);
  works = opened.works;
  named = named;
  config_is = refl;
  last = refl;
  sockets = λ k. search rules;
  lines = c.new-2.ensures.items;
}

pub returns-clause-tells : goal.returns-clause-tells
returns-clause-tells g c = λ works. record {
  known = λ none. works;
  told = tt;
  recorded = opened_recorded g.M.Machine.meaning c.args.core c.new-3.result works c.new-3.ensures.entries c.new-3.ensures.lengths c.new-3.ensures.cut;
}
